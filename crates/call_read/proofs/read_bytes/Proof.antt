-- `place` lies inside the memories, so what `lent` lends there are the bytes that the model reads.
use mathlib.Core.Path.{◌∙◌}
use borrow.Author.Rules.{rules}
use Rattle.call_read.proofs.read_bytes.Statement.{statement}
use Rattle.call_read.proofs.read_bytes.Tie as tie

pub read_bytes_spec : {M : Type 1} → statement M
read_bytes_spec =
    tie.close
    (tie.spec
    (λ c κs. search rules)
    (λ c κs. c.place-p.ensures.inside)
    (λ c. c.lent.ensures ∙ c.place-p.ensures.bytes))
