-- What is left behind the blanks that `run` counts.
use borrow.Author.Rules.{rules}
use Rattle.text_words.proofs.Laws.Words.{tail}
use Rattle.text_typed.specs.Typed.{from_word}
use Rattle.text_typed.proofs.from_word.Statement.{statement}
use Rattle.text_typed.proofs.from_word.Tie as tie

pub from_word_spec : {M : Type 1} → statement M
unfolding from_word
from_word_spec =
    tie.close
    (tie.spec
    (λ c κs. search rules)
    (λ c. search rules)
    (λ c. search rules)
    (λ c. search rules)
    (λ c. rw c.run-n.ensures.count (tail c.args.s.now _)))
