-- A filled array has as many bytes as its type says: hall memory, and some past it.
use mathlib.Core.Path.{sym}
use Prim.Native.Nat.{ℕ}
use lib.ListN.{length-replicate}
use Rattle.console.proofs.hall_memory.Statement.{statement}
use Rattle.console.proofs.hall_memory.Tie as tie

pub hall_memory_spec : {M : Type 1} → statement M
hall_memory_spec = tie.close (tie.spec (λ c. sym (length-replicate {A = ℕ} _ 165)))
