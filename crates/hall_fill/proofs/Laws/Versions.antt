-- A version's fields, filled into a region of zeros, are its row there.
use mathlib.Core.Bool.{cond}
use mathlib.Core.Path.{◌≡◌, refl, ◌∙◌}
use mathlib.Core.List.{[], ◌∷◌, ◌++◌, append_assoc, append-nil}
use Prim.Native.Nat.{ℕ, suc, ◌+◌, ◌-◌, ◌^◌, ◌≤◌, ◌<◌}
use native.Mathlib.Omega.{arith}
use lib.Dec.{eqb}
use lib.ListN.{length, length-append}
use borrow.Author.Tests.{ne_eqb, lt-ltb}
use Rattle.model.specs.Sizes.{max_value, max_version_rooms, number_width, count_width, tag_width}
use Rattle.model.specs.Bytes.{Bytes, bytes}
use Rattle.model.specs.State.{Payload, deletion, content, Version}
use Rattle.model.specs.Dump.{dump_payload, dump_version}
use Rattle.memory.specs.Spans.{padded}
use Rattle.memory.proofs.Laws.Numbers.{length_bytes, num_bytes}
use Rattle.cells.specs.Cells.{payload_width, payload_bytes, value_place, Short}
use Rattle.cells.proofs.Laws.Cells.{record_short}
use Rattle.hall.specs.Tables.{GoodVersion}
use Rattle.hall.specs.Layout.{version_width, version_place, version_bytes}
use Rattle.dump_fields.specs.Drive.{drive}
use Rattle.dump_fields.specs.Machine.{said, width_of, between}
use Rattle.dump_fields.specs.declared.machine.Phase.{Phase}
use Rattle.dump_fields.specs.declared.machine.Phase.TheVariants.{Number, Tag, ValueLength, Value}
use Rattle.dump_fields.specs.declared.machine.Loader.{Loader}
use Rattle.dump_fields.proofs.Laws.Numbers.{said_short}
use Rattle.dump_fields.proofs.Laws.Drive.{drive_field}
use Rattle.dump_fields.proofs.Laws.Machine.{wide}
use Rattle.dump_fields.proofs.Laws.Parser.{known}
use Rattle.hall_place.specs.declared.Rows.{Rows}
use Rattle.hall_place.specs.Placing.{version_row}
use Rattle.hall_fill.specs.Filling.{Filling, after, filler}
use Rattle.hall_fill.proofs.Laws.Regions.{grow_fit, padded_padded}

abbrev pub rows_at : (keys versions : ℕ) → Rows
rows_at i j = record { keys = i; versions = j }

module _ (ks vs ds : ℕ) where
  abbrev pub fill : Filling → Bytes → Bytes
  fill x y = drive (filler ks vs ds) x [] y

  -- ---- one field

  pub field_filled : (x : Filling) (f y : Bytes) → length f ≡ width_of x.phase
      → fill x (f ++ y) ≡ fill (after ks x (said f) f) y
  field_filled x f y e = drive_field (filler ks vs ds) x f y e (wide x.phase)

  pub number_filled : (x : Filling) (w v : ℕ) (y : Bytes) → w ≡ width_of x.phase → w ≤ number_width → v < 256 ^ w
      → fill x (bytes w v ++ y) ≡ fill (after ks x v (bytes w v)) y
  number_filled x w v y e h l =
      field_filled x (bytes w v) y (length_bytes w v ∙ e)
      ∙ rw (said_short (bytes w v) (rw length_bytes h), num_bytes w v l)

  -- ---- a version in a region of w bytes, which stands at `at` between a and q

  module _ (a q : Bytes) (w at : ℕ) (e : length a ≡ at) where
    -- before a field, where the region holds Q
    abbrev in_region : Phase → Loader → Rows → (Q : Bytes) → Filling
    in_region p s g Q = record { phase = p; known = s; rows = g; memory = a ++ (padded w Q ++ q) }

    module _ (s : Loader) (g : Rows) where
      abbrev place : ℕ
      place = version_place ks (version_row s g)

      -- the value after W
      value_filled : (W b y : Bytes) → length b ≤ max_value → at + length W ≡ place + (number_width + value_place)
          → length W + max_value ≤ w
          → fill (in_region (cond (eqb (length b) 0) (between s) (Value (length b))) s g W) (b ++ y)
          ≡ fill (in_region (between s) s g (W ++ b)) y
      value_filled W [] y h k r = rw (append-nil W)
      value_filled W (z ∷ b) y h k r =
          let n : ℕ = suc (length b) in
          let p : ℕ = place + (number_width + value_place) in
          rw (ne_eqb n 0 (λ i. omega arith))
          (field_filled (in_region (Value n) s g W) (z ∷ b) y refl
          ∙ rw (grow_fit a q w at e W (z ∷ b) p (omega arith) (omega arith)))

      -- the payload's fields after U, the row's front
      payload_filled : (U : Bytes) (p : Payload) (y : Bytes) → Short p → at + length U ≡ place + number_width
          → length U + payload_width ≤ w
          → fill (in_region Tag s g U) (dump_payload p ++ y) ≡ fill (in_region (between s) s g (U ++ dump_payload p)) y
      unfolding dump_payload
      payload_filled U deletion y h l r =
          let t : Bytes = bytes tag_width 0 in
          number_filled (in_region Tag s g U) tag_width 0 y refl (omega arith) (omega arith)
          ∙ rw (grow_fit a q w at e U t (place + number_width) (omega arith) (rw length_bytes (omega arith)))
      payload_filled U (content b) y h l r =
          let n : ℕ = length b in
          let t : Bytes = bytes tag_width 1 in
          let f : Bytes = bytes count_width n in
          let T : Bytes = U ++ t in
          let u : length T ≡ length U + tag_width = rw (length-append, length_bytes) in
          let v : length (T ++ f) ≡ length U + value_place = rw (length-append, length_bytes) (omega arith) in
          let p : ℕ = place + (number_width + tag_width) in
          simp append_assoc
          (number_filled (in_region Tag s g U) tag_width 1 (f ++ (b ++ y)) refl (omega arith) (omega arith)
          ∙ rw (grow_fit a q w at e U t (place + number_width) (omega arith) (rw length_bytes (omega arith)))
          (number_filled (in_region ValueLength s g T) count_width n (b ++ y) refl (omega arith) (omega arith)
          ∙ rw (grow_fit a q w at e T f p (omega arith) (rw length_bytes (omega arith)))
          (value_filled (T ++ f) b y h (omega arith) (omega arith) ∙ simp append_assoc)))

    -- a version in its row, where the zeros after it are the region's
    version_row_lem : (Q : Bytes) (v : Version) → Short v.payload → length Q + version_width ≤ w
        → padded w ((Q ++ bytes number_width v.number) ++ dump_payload v.payload) ≡ padded w (Q ++ version_bytes v)
    unfolding version_bytes payload_bytes
    version_row_lem Q v h l =
        let n : Bytes = bytes number_width v.number in
        let p : Bytes = dump_payload v.payload in
        let k : length (Q ++ n) + payload_width ≤ w = rw (length-append, length_bytes) (omega arith) in
        rw (
          ← append_assoc Q n (padded payload_width p),
          padded_padded w payload_width (Q ++ n) p (record_short v.payload h) k,
        )

    -- version j of a dump, in the last of i keys: n versions of its key come after it
    module _ (next keys rooms n i j : ℕ) (v : Version) where
      abbrev s : Loader
      s = known next keys rooms n v.number

      abbrev g : Rows
      g = rows_at i (suc j)

      pub version_filled : (l : ℕ) (Q y : Bytes) → GoodVersion v → j < max_version_rooms → length Q + version_width ≤ w
          → at + length Q ≡ version_place ks (version_row s g)
          → fill (in_region Number (known next keys rooms (suc n) l) (rows_at i j) Q) (dump_version v ++ y)
          ≡ fill (in_region (between s) s g (Q ++ version_bytes v)) y
      unfolding dump_version
      version_filled l Q y f h r k =
          let x : Filling = in_region Number (known next keys rooms (suc n) l) (rows_at i j) Q in
          let b : Bytes = bytes number_width v.number in
          let p : Bytes = dump_payload v.payload in
          let one : suc n - 1 ≡ n = omega arith in
          let u : length (Q ++ b) ≡ length Q + number_width = rw (length-append, length_bytes) in
          rw (append_assoc b p y)
          (number_filled x number_width v.number (p ++ y) refl (omega arith) f.low
          ∙ rw (
            lt-ltb j max_version_rooms h,
            one,
            grow_fit a q w at e Q b (place s g) (omega arith) (rw length_bytes (omega arith)),
          )
          (payload_filled s g (Q ++ b) v.payload y f.short (omega arith) (omega arith)
          ∙ rw (version_row_lem Q v f.short r)))
