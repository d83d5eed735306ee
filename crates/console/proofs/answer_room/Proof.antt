-- A filled array has as many bytes as its type says: room for the longest answer behind others.
use mathlib.Core.Path.{sym}
use Prim.Native.Nat.{ℕ}
use lib.ListN.{length-replicate}
use Rattle.console.specs.Rooms.{answers}
use Rattle.console.proofs.answer_room.Statement.{statement}
use Rattle.console.proofs.answer_room.Tie as tie

pub answer_room_spec : {M : Type 1} → statement M
answer_room_spec = tie.close (tie.spec (λ c. sym (length-replicate {A = ℕ} answers 0)))
