-- The place's answer.
use mathlib.Core.Path.{◌∙◌}
use borrow.Author.Rules.{rules}
use Rattle.call_ask.proofs.past.as_of.Statement.{statement}
use Rattle.call_ask.proofs.past.as_of.Tie as tie

pub as_of_spec : {M : Type 1} → statement M
as_of_spec =
    tie.close
    (tie.spec
    (λ c κs. search rules)
    (λ c κs. search rules)
    (λ c. c.found.ensures ∙ c.place.ensures.answer))
