-- `find` counts the bytes before the first space, and so many bytes are the first word.
use borrow.Author.Rules.{rules}
use Rattle.text_words.proofs.Laws.Words.{before_take}
use Rattle.text_words.proofs.first.Statement.{statement}
use Rattle.text_words.proofs.first.Tie as tie

pub first_spec : {M : Type 1} → statement M
first_spec =
    tie.close
    (tie.spec
    (λ c κs. search rules)
    (λ c. rw (c.find-n.ensures.end, before_take))
    (λ c. rw (c.find-n.ensures.end, before_take)))
