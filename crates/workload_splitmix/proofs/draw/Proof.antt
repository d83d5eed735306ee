-- The wrapping sum and products are what the callees answer, and shifts and xors are the spec's own.
use Rattle.std.proofs.Common.{rules}
use Rattle.workload_splitmix.proofs.draw.Statement.{statement}
use Rattle.workload_splitmix.proofs.draw.Tie as tie

pub draw_spec : {M : Type 1} → statement M
draw_spec = tie.close (tie.spec (λ c κs. search rules) (λ c κs. search rules) (λ c κs. search rules) (λ c. cc))
