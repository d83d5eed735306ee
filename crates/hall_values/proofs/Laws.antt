-- Where a value stands, and what is answered there.
-- Assumes nothing.
use mathlib.Core.Path.{◌≡◌, refl, ap, ◌∙◌}
use mathlib.Core.Bool.{true}
use Rattle.std.specs.Prelude.{Option, None, Some}
use Prim.Native.Nat.{ℕ, ◌+◌, ◌*◌, ◌≤◌, ◌<◌}
use native.Mathlib.Omega.{arith}
use lib.ListN.{length}
use Rattle.model.specs.Sizes.{number_width}
use Rattle.model.specs.Bytes.{Bytes, part}
use Rattle.model.specs.State.{Payload, content_of}
use Rattle.model.specs.Calls.{refused, stays, answering, Outcome, read_outcome}
use Rattle.cells.specs.Cells.{payload_width, is_payload_cell}
use Rattle.cells.specs.Values.{value_in}
use Rattle.memory.specs.declared.spans.Span.{Span}
use Rattle.cells.proofs.Laws.Values.{value_shown, value_inside}
use Rattle.answers.specs.declared.Refusal.{Refusal}
use Rattle.answers.specs.Paper.{number_of}
use Rattle.hall.specs.Layout.{version_width, version_base, key_rooms_in, versions_in}
use Rattle.hall.specs.Tables.{Shaped, version_at}
use Rattle.hall.proofs.Laws.Rows.{version_fits, payload_is_cell, payload_told}
use Rattle.hall_values.specs.Places.{Reading}
use Rattle.hall_values.specs.Stands.{Stands, own_place, held_place}
use Rattle.hall_values.specs.declared.Placed.TheVariants.{Refused}

-- ---- a version's value

module _ (m : Bytes) (s : Shaped m) (j : ℕ) (h : j < length (versions_in m)) {at : ℕ} (e : at ≡ version_base (key_rooms_in m) + version_width * j + number_width) where
  pub payload_ready : (at + payload_width ≤ length m) × (is_payload_cell (part m at payload_width) ≡ true)
  payload_ready = rw e (omega (arith, version_fits m s j h), payload_is_cell m s j h)

  pub version_stands : {v : Option Span} → v ≡ value_in at (part m at payload_width) → Stands m v (content_of (version_at j (versions_in m)).payload)
  version_stands q =
      rw q (value_shown m at payload_ready.0 payload_ready.1 ∙ rw e (ap (λ (x : Payload). content_of x) (payload_told m s j h)), value_inside m at payload_ready.0 payload_ready.1)

-- ---- the place of a value, or of none

module _ (h d : Bytes) where
  pub refuses : (r : Refusal) {o : Outcome} → o ≡ answering (refused (number_of r)) stays → Reading h d (Refused r) o
  refuses r e = rw e (record { answer = refl; bytes = refl; inside = tt })

  pub own_stands : (v : Option Span) (p : Payload) (o : Option Bytes) → Stands d v (content_of p) → Reading h d (own_place v) (read_outcome (Some p) o)
  unfolding read_outcome
  own_stands (Some s) p o a = rw (← a.0) (record { answer = refl; bytes = refl; inside = a.1 })
  own_stands None p o a = rw (← a.0) (record { answer = refl; bytes = refl; inside = tt })

  pub held_stands : (v : Option Span) (o : Option Bytes) → Stands h v o → Reading h d (held_place v) (read_outcome None o)
  unfolding read_outcome
  held_stands (Some s) o a = rw (← a.0) (record { answer = refl; bytes = refl; inside = a.1 })
  held_stands None o a = rw (← a.0) (record { answer = refl; bytes = refl; inside = tt })
