-- A key's chain in a sound hall memory, against a start: some version is above it exactly if the newest is.
-- Assumes nothing.
use mathlib.Core.Path.{◌≡◌, sym, ◌∙◌, subst}
use mathlib.Core.Bool.{Bool, true, false}
use mathlib.Core.List.{List, [], ◌∷◌}
use Rattle.std.specs.Prelude.{None, Some}
use Prim.Native.Nat.{ℕ, ◌+◌, ◌-◌, ◌*◌, ◌^◌, ◌≤◌, ◌<◌}
use native.Mathlib.Omega.{arith}
use borrow.Author.Tests.{ltb-false, leb-false, eqb-false}
use lib.Dec.{eqb, leb, ltb}
use lib.ListN.{length}
use Rattle.model.specs.Sizes.{max_key, count_width}
use Rattle.model.specs.Bytes.{Bytes, order}
use Rattle.model.specs.State.{Version, look, newest_of}
use Rattle.model.specs.Calls.{above}
use Rattle.model.proofs.Cases.{by_bool, by_order}
use Rattle.model.proofs.Order.{order_eq}
use Rattle.cells.specs.declared.rows.Place.{Place}
use Rattle.cells.specs.declared.rows.Place.TheVariants.{At, Before}
use Rattle.hall.specs.Layout.{Row, keys_in, versions_in, hall_in, Sound}
use Rattle.hall.specs.Tables.{row_at, version_at, row_keys}
use Rattle.cells.specs.Rows.{place_of}
use Rattle.hall.proofs.Laws.Rows.{row_good}
use Rattle.hall.proofs.Laws.Sound.{sound_shaped}
use Rattle.cells.proofs.Laws.Rows.{next, place_next}
use Rattle.hall.proofs.Laws.Chains.{row_range, look_none, at_in, newest_at}
use Rattle.hall_conflict.specs.Clashes.{clash_at, down_from, Deep}

-- ---- the key at a place

abbrev Keyed : Bytes → Place → List Row → Type 0
Keyed k (At i) rs = (row_at i rs).key ≡ k
Keyed k (Before i) rs = Unit {0}

keyed_next : (k : Bytes) (p : Place) (r : Row) (rs : List Row) → Keyed k p rs → Keyed k (next p) (r ∷ rs)
keyed_next k (At i) r rs h = h
keyed_next k (Before i) r rs h = tt

place_key : (k : Bytes) (rs : List Row) → Keyed k (place_of k 0 (row_keys rs)) rs
unfolding place_of
place_key k [] = tt
place_key k (r ∷ rs) =
    by_order (order k r.key)
    (λ p. rw p tt)
    (λ p. rw p (sym (order_eq k _ p)))
    (λ p. rw (p, place_next k 0 (row_keys rs)) (keyed_next k (place_of k 0 (row_keys rs)) r rs (place_key k rs)))

-- ---- a chain from its newest version down

-- version 0 is in the key's own row
pub newest_number : (i : ℕ) (rs : List Row) (vs : List Version) {k r x : ℕ} → k ≡ 0 → r ≡ down_from i k rs → x ≡ (version_at r vs).number → x ≡ (version_at i vs).number
newest_number i rs vs e f g = g ∙ rw (f, e)

-- a version is above a start or seen by it
pub above_or_seen : (t x : ℕ) {a b : Bool} → a ≡ ltb t x → a ≡ false → b ≡ leb x t → b ≡ false → ⊥
above_or_seen t x e f g h = omega (arith, ltb-false t x (sym e ∙ f), leb-false x t (sym g ∙ h))

-- its rows
module _ (m : Bytes) {i k : ℕ} (d : Deep m i k) where
  pub down_fits : {n e : ℕ} → n ≡ length (keys_in m) → e ≡ (row_at i (keys_in m)).end → (n + e < 2 * 256 ^ count_width) × (k ≤ n + e)
  down_fits p q =
      let s = sound_shaped m d.hall in
      (omega (arith, (row_good m s i d.row).low, s.good.keys_fit, s.good.few_keys), omega arith)

  pub down_in : {r : ℕ} → r ≡ down_from i k (keys_in m) → r < length (versions_in m)
  down_in {r} e =
      let g = row_range m d.hall i d.row in
      by_bool (eqb k 0)
      (λ p. let f : r ≡ i = e ∙ rw p in omega arith)
      (λ p. let f : r ≡ length (keys_in m) + (row_at i (keys_in m)).end - k = e ∙ rw p in
      omega (arith, eqb-false k 0 p, d.deep))

-- ---- in a sound memory

module _ (m : Bytes) (s : Sound m) (t : ℕ) (k : Bytes) where
  pub above_none : (i : ℕ) → place_of k 0 (row_keys (keys_in m)) ≡ Before i → above t (newest_of (look k (hall_in m).entries)) ≡ None
  unfolding above newest_of
  above_none i p = rw (look_none m s k i p)

  module _ (row : ℕ) (p : place_of k 0 (row_keys (keys_in m)) ≡ At row) where
    -- the key stands in that row, in a cell that it fits
    pub key_at : (row_at row (keys_in m)).key ≡ k
    key_at = subst (λ (q : Place). Keyed k q (keys_in m)) p (place_key k (keys_in m))

    pub key_short : length (row_at row (keys_in m)).key ≤ max_key
    key_short = (row_good m (sound_shaped m s) row (at_in m s k row p)).short

    -- the newest version's number x
    module _ {x : ℕ} {b : Bool} (q : x ≡ (version_at row (versions_in m)).number) (y : b ≡ ltb t x) where
      pub not_above : b ≡ false → above t (newest_of (look k (hall_in m).entries)) ≡ None
      unfolding above
      not_above z = rw (newest_at m s k row p, ← q, ← y, z)

      pub one_above : b ≡ true → above t (newest_of (look k (hall_in m).entries)) ≡ Some (clash_at m row).1
      unfolding above
      one_above z = rw (newest_at m s k row p, ← q, ← y, z)
