-- The place that a payload's cell says is the value's.
-- Assumes nothing.
use mathlib.Core.Path.{◌≡◌}
use mathlib.Core.Bool.{true}
use Prim.Native.Nat.{ℕ, ◌+◌, ◌≤◌}
use native.Mathlib.Omega.{arith}
use lib.ListN.{length}
use Rattle.model.specs.Bytes.{Bytes, part}
use Rattle.model.specs.State.{content_of}
use Rattle.memory.proofs.Laws.Parts.{part_part}
use Rattle.cells.specs.Cells.{payload_width, value_place, value_length, payload_from, is_payload_cell}
use Rattle.cells.specs.Values.{value_in, bytes_at, Inside}
use Rattle.cells.proofs.Laws.Cells.{by_payload}

module _ (m : Bytes) (at : ℕ) (h : at + payload_width ≤ length m) (s : is_payload_cell (part m at payload_width) ≡ true) where
  pub value_shown : bytes_at m (value_in at (part m at payload_width)) ≡ content_of (payload_from (part m at payload_width))
  unfolding value_in
  value_shown =
      by_payload _ s
      (λ t z f. rw (f, t))
      (λ t l z f. rw (f, t, part_part m at payload_width value_place (value_length (part m at payload_width)) (omega arith)))

  pub value_inside : Inside m (value_in at (part m at payload_width))
  unfolding value_in
  value_inside = by_payload _ s (λ t z f. rw t tt) (λ t l z f. rw t (omega arith))
