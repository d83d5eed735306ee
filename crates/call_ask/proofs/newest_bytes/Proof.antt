-- `place` lies inside hall memory, so what `lent` lends there are the bytes of the newest value.
use mathlib.Core.Path.{◌∙◌}
use borrow.Author.Rules.{rules}
use Rattle.call_ask.proofs.newest_bytes.Statement.{statement}
use Rattle.call_ask.proofs.newest_bytes.Tie as tie

pub newest_bytes_spec : {M : Type 1} → statement M
newest_bytes_spec =
    tie.close
    (tie.spec
    (λ c κs. search rules)
    (λ c κs. c.place-p.ensures.inside)
    (λ c. c.lent.ensures ∙ c.place-p.ensures.bytes))
