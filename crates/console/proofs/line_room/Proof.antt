-- A filled array has as many bytes as its type says: the longest line and its end.
use mathlib.Core.Path.{sym}
use Prim.Native.Nat.{ℕ}
use lib.ListN.{length-replicate}
use Rattle.console.specs.Rooms.{line}
use Rattle.console.proofs.line_room.Statement.{statement}
use Rattle.console.proofs.line_room.Tie as tie

pub line_room_spec : {M : Type 1} → statement M
line_room_spec = tie.close (tie.spec (λ c. sym (length-replicate {A = ℕ} line 0)))
