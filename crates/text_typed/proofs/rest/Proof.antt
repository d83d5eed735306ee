-- Behind the first word, `from_word` leaves the blanks away.
use mathlib.Core.Path.{ap, ◌∙◌}
use borrow.Author.Rules.{rules}
use Rattle.text_words.proofs.Laws.Words.{tail}
use Rattle.text_typed.specs.Typed.{from_word, rest}
use Rattle.text_typed.proofs.rest.Statement.{statement}
use Rattle.text_typed.proofs.rest.Tie as tie

returns : tie.Need-returns
unfolding rest
returns c =
    let s = c.args.s.now in
    c.from_word.ensures ∙ ap from_word (rw c.run-n.ensures.count (tail s _))

pub rest_spec : {M : Type 1} → statement M
rest_spec =
    tie.close
    (tie.spec
    (λ c κs. search rules)
    (λ c. search rules)
    (λ c. search rules)
    (λ c. search rules)
    (λ c κs. search rules)
    returns)
