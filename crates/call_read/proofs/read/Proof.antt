-- `place` says where the value stands, and the kind of its place is the model's answer.
use mathlib.Core.Path.{◌∙◌}
use borrow.Author.Rules.{rules}
use Rattle.call_read.proofs.read.Statement.{statement}
use Rattle.call_read.proofs.read.Tie as tie

pub read_spec : {M : Type 1} → statement M
read_spec =
    tie.close
    (tie.spec
    (λ c κs. search rules)
    (λ c κs. search rules)
    (λ c. c.found.ensures ∙ c.place.ensures.answer))
