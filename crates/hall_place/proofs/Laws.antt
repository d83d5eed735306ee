-- Stores that fit, and rows that stay in range.
use mathlib.Core.Path.{◌≡◌}
use Prim.Native.Nat.{ℕ, ◌+◌, ◌^◌, ◌≤◌, ◌<◌}
use native.Mathlib.Omega.{arith}
use lib.Dec.{ltb, eqb}
use lib.ListN.{length}
use lib.Seq.{sets}
use borrow.Author.Tests.{le-leb, lt-leb, ltb-true}
use Rattle.model.specs.Sizes.{max_key_rooms, max_version_rooms, count_width}
use Rattle.model.specs.Bytes.{Bytes}
use Rattle.model.proofs.Cases.{by_bool}
use Rattle.dump_fields.specs.declared.machine.Phase.{Phase}
use Rattle.dump_fields.specs.declared.machine.Phase.TheVariants.{KeyLength, Number}
use Rattle.dump_fields.specs.declared.machine.Loader.{Loader}
use Rattle.hall_place.specs.declared.Rows.{Rows}
use Rattle.hall_place.specs.Placing.{fit_sets, up, rows_by, version_row}

-- ---- stores that fit

pub fit_yes : (m : Bytes) (at : ℕ) (xs : Bytes) → at + length xs ≤ length m → fit_sets m at xs ≡ sets m at xs
unfolding fit_sets
fit_yes m at xs h = rw (le-leb (at + length xs) (length m) h)

pub fit_no : (m : Bytes) (at : ℕ) (xs : Bytes) → length m < at + length xs → fit_sets m at xs ≡ m
unfolding fit_sets
fit_no m at xs h = rw (lt-leb (at + length xs) (length m) h)

-- ---- rows stay in range

up_top : (top i : ℕ) → i ≤ top → up top i ≤ top
up_top top i h = by_bool (ltb i top) (λ t. rw t (omega (arith, ltb-true i top t))) (λ t. rw t h)

abbrev pub Ranged : Rows → Type 0
Ranged g = (g.keys ≤ max_key_rooms) × (g.versions ≤ max_version_rooms)

pub rows_ranged : (p : Phase) (g : Rows) → Ranged g → Ranged (rows_by p g)
rows_ranged KeyLength g h = (up_top max_key_rooms g.keys h.0, h.1)
rows_ranged Number g h = (h.0, up_top max_version_rooms g.versions h.1)
rows_ranged _ g h = h

pub row_below : (s : Loader) (g : Rows) → Ranged g → version_row s g ≤ 256 ^ count_width + max_version_rooms
row_below s g h = by_bool (eqb s.versions 0) (λ t. rw t (omega arith)) (λ t. rw t (omega arith))
