-- The place's bytes, which stand inside hall memory.
use mathlib.Core.Path.{◌∙◌}
use borrow.Author.Rules.{rules}
use Rattle.call_ask.proofs.past.as_of_bytes.Statement.{statement}
use Rattle.call_ask.proofs.past.as_of_bytes.Tie as tie

pub as_of_bytes_spec : {M : Type 1} → statement M
as_of_bytes_spec =
    tie.close
    (tie.spec
    (λ c κs. search rules)
    (λ c κs. c.place-p.ensures.inside)
    (λ c. c.lent.ensures ∙ c.place-p.ensures.bytes))
