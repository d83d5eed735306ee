-- `place` says where the newest value stands, and the kind of its place is the model's answer.
use mathlib.Core.Path.{◌∙◌}
use borrow.Author.Rules.{rules}
use Rattle.call_ask.proofs.newest.Statement.{statement}
use Rattle.call_ask.proofs.newest.Tie as tie

pub newest_spec : {M : Type 1} → statement M
newest_spec =
    tie.close
    (tie.spec
    (λ c κs. search rules)
    (λ c κs. search rules)
    (λ c. c.found.ensures ∙ c.place.ensures.answer))
