-- A filled array has as many bytes as its type says: those that the longest line says.
use mathlib.Core.Path.{sym}
use Prim.Native.Nat.{ℕ}
use lib.ListN.{length-replicate}
use Rattle.console.specs.Rooms.{spare}
use Rattle.console.proofs.spare_room.Statement.{statement}
use Rattle.console.proofs.spare_room.Tie as tie

pub spare_room_spec : {M : Type 1} → statement M
spare_room_spec = tie.close (tie.spec (λ c. sym (length-replicate {A = ℕ} spare 0)))
