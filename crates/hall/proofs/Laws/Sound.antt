-- A hall in a memory: what is put is read, and sound memories.
-- Assumes nothing.
use mathlib.Core.Path.{◌≡◌, refl, sym, ap, ◌∙◌, subst}
use mathlib.Core.Bool.{Bool, true, false, ◌&&◌}
use mathlib.Core.List.{List, []}
use Prim.Native.Nat.{ℕ, zero, suc, ◌≤◌}
use native.Mathlib.Omega.{arith}
use borrow.Author.Tests.{leb-true, le-leb}
use lib.Dec.{leb}
use lib.ListN.{length, take, drop}
use Rattle.model.specs.Sizes.{count_width}
use Rattle.model.specs.Bytes.{Bytes, part, num, order, is_same}
use Rattle.model.specs.State.{Version, Entry, Hall, version_count, with_entries, with_floor}
use Rattle.model.specs.Sound.{sound_hall}
use Rattle.model_laws.proofs.Entries.{keys_of}
use Rattle.model_laws.proofs.Tested.{hall_parts}
use Rattle.model.proofs.Cases.{and_intro, and_left, and_right, by_bool}
use Rattle.model.proofs.Order.{order_refl, order_eq, same_eq}
use Rattle.memory.specs.Spans.{zeros}
use Rattle.cells.specs.Rows.{Ascending}
use Rattle.cells.proofs.Laws.Halving.{ascends}
use Rattle.hall.specs.Layout.{needed, Row, Tables, rows_of, versions_of, tables_for, hall_for, key_rooms_in, version_rooms_in, counter_in, floor_in, desk_count_in, keys_in, versions_in, tables_in, hall_in, put_tables, put_hall, is_sound, Sound, allowed}
use Rattle.hall.specs.Tables.{Shaped, with_keys, with_versions, with_counter, floored, row_keys, Ranged}
use Rattle.hall.proofs.Laws.Tables.{put_get, put_put, put_shaped, put_length}
use Rattle.hall.proofs.Laws.Halls.{hall_get, tables_get, rows_keys, rows_total, versions_total, tables_ranged, sound_sizes, good_hall}

pub needed_small : (ks vs : ℕ) → needed ks vs ≤ allowed ks vs
needed_small ks vs = omega arith

-- the header's numbers are the hall's
module _ (m : Bytes) where
  pub hall_key_rooms : (hall_in m).key_rooms ≡ key_rooms_in m
  unfolding hall_in hall_for
  hall_key_rooms = refl

  pub hall_version_rooms : (hall_in m).version_rooms ≡ version_rooms_in m
  unfolding hall_in hall_for
  hall_version_rooms = refl

  pub hall_desk_count : (hall_in m).desk_count ≡ desk_count_in m
  unfolding hall_in hall_for
  hall_desk_count = refl

  pub hall_floor : (hall_in m).floor ≡ floor_in m
  unfolding hall_in hall_for
  hall_floor = refl

  pub hall_counter : (hall_in m).counter ≡ counter_in m
  unfolding hall_in hall_for
  hall_counter = refl

  -- tables that are those of other entries
  pub put_entries : (es : List Entry) {ks : List Row} {vs : List Version} {m₁ : Bytes} → ks ≡ rows_of 0 es → vs ≡ versions_of es
      → m₁ ≡ put_tables m (with_keys ks (with_versions vs (tables_in m)))
      → m₁ ≡ put_hall m (with_entries (hall_in m) (hall_in m).counter es)
  unfolding put_hall tables_for hall_in hall_for
  put_entries es k v p = p ∙ rw (k, v)

-- ---- a sound hall that is put

module _ (m : Bytes) (h : Hall) (s : sound_hall h ≡ true) where
  pub hall_read : hall_in (put_hall m h) ≡ h
  unfolding hall_in put_hall
  hall_read = ap hall_for (put_get (tables_for h) (good_hall h s) m) ∙ hall_get h (hall_parts h s).non_empty

  pub put_hall_length : needed h.key_rooms h.version_rooms ≤ length m → length (put_hall m h) ≡ length m
  unfolding put_hall tables_for
  put_hall_length l = put_length (tables_for h) (good_hall h s) m l

  -- another hall of the same sizes put over it
  pub put_hall_put : (g : Hall) → g.key_rooms ≡ h.key_rooms → g.version_rooms ≡ h.version_rooms → put_hall (put_hall m h) g ≡ put_hall m g
  unfolding put_hall tables_for
  put_hall_put g k v = put_put (tables_for h) (good_hall h s) m (tables_for g) (rw (k, v))

  pub put_sound : needed h.key_rooms h.version_rooms ≤ length m → Sound (put_hall m h)
  put_sound l =
      let e = hall_read in
      record {
        long = subst (λ x. needed x.key_rooms x.version_rooms ≤ length (put_hall m h)) (sym e) (rw (put_hall_length l) l);
        hall = subst (λ x. sound_hall x ≡ true) (sym e) s;
        same = subst (λ x. put_hall m h ≡ put_hall (put_hall m h) x) (sym e) (sym (put_hall_put h refl refl));
      }

-- ---- a sound memory

module _ (m : Bytes) (s : Sound m) where
  abbrev es : List Entry
  es = (hall_in m).entries

  pub put_hall_same : put_hall m (hall_in m) ≡ m
  put_hall_same = sym s.same

  pub sound_tables : tables_in m ≡ tables_for (hall_in m)
  unfolding put_hall
  sound_tables = ap tables_in s.same ∙ put_get (tables_for (hall_in m)) (good_hall (hall_in m) s.hall) m

  pub sound_shaped : Shaped m
  unfolding put_hall tables_for
  sound_shaped = subst (λ l. Shaped l) (sym s.same) (put_shaped (tables_for (hall_in m)) (good_hall (hall_in m) s.hall) m s.long)

  pub keys_are : keys_in m ≡ rows_of 0 (hall_in m).entries
  unfolding tables_for
  keys_are = ap (λ (t : Tables). t.keys) sound_tables

  pub keys_ascend : Ascending (row_keys (keys_in m))
  keys_ascend = rw (keys_are, rows_keys 0 es) (ascends [] (keys_of es) (hall_parts (hall_in m) s.hall).ascending)

  pub versions_are : versions_in m ≡ versions_of (hall_in m).entries
  unfolding tables_for
  versions_are = ap (λ (t : Tables). t.versions) sound_tables

  pub keys_counted : length (keys_in m) ≡ length (hall_in m).entries
  keys_counted = ap length keys_are ∙ rows_total 0 es

  pub versions_counted : length (versions_in m) ≡ version_count (hall_in m).entries
  versions_counted = ap length versions_are ∙ versions_total es

  pub sound_ranged : Ranged (tables_in m)
  sound_ranged = subst (λ (t : Tables). Ranged t) (sym sound_tables) (tables_ranged (hall_in m) (hall_parts (hall_in m) s.hall).non_empty)

  -- the counter stored
  pub put_hall_counter : (n : ℕ) {m₁ : Bytes} → m₁ ≡ put_tables m (with_counter n (tables_in m)) → m₁ ≡ put_hall m (with_entries (hall_in m) n (hall_in m).entries)
  unfolding put_hall tables_for
  put_hall_counter n p = p ∙ ap (λ (t : Tables). put_tables m (with_counter n t)) sound_tables

  -- the floor stored
  pub put_hall_floor : (n : ℕ) {m₁ : Bytes} → m₁ ≡ put_tables m (floored n (tables_in m)) → m₁ ≡ put_hall m (with_floor (hall_in m) n)
  unfolding put_hall tables_for
  put_hall_floor n p = p ∙ ap (λ (t : Tables). put_tables m (floored n t)) sound_tables

-- tables whose ends fit, and whose hall is sound
pub shaped_sound : (m : Bytes) → Shaped m → Ranged (tables_in m) → sound_hall (hall_in m) ≡ true → Sound m
unfolding hall_in put_hall hall_for
shaped_sound m s a h =
    let e : tables_for (hall_for (tables_in m)) ≡ tables_in m = tables_get (tables_in m) a in
    record { long = s.long; hall = h; same = subst (λ (u : Tables). m ≡ put_tables m u) (sym e) s.same }

-- ---- soundness as a test

pub tested : (m : Bytes) → is_sound m ≡ true → Sound m
unfolding is_sound
tested m e =
    let h : Hall = hall_in m in
    let a : Bool = leb (needed h.key_rooms h.version_rooms) (length m) in
    let b : Bool = is_same (order m (put_hall m h)) in
    let f = and_right a (sound_hall h && b) e in
    record {
      long = leb-true (needed h.key_rooms h.version_rooms) (length m) (and_left a (sound_hall h && b) e);
      hall = and_left (sound_hall h) b f;
      same = order_eq m (put_hall m h) (same_eq (order m (put_hall m h)) (and_right (sound_hall h) b f));
    }

pub tests : (m : Bytes) → Sound m → is_sound m ≡ true
unfolding is_sound
tests m s =
    let h : Hall = hall_in m in
    let o : order m (put_hall m h) ≡ order m m = ap (order m) (put_hall_same m s) in
    and_intro (le-leb (needed h.key_rooms h.version_rooms) (length m) s.long) (and_intro s.hall (rw (o, order_refl m)))

num_zeros : (k n : ℕ) → num (take k (zeros n)) ≡ 0
unfolding num
num_zeros zero n = refl
num_zeros (suc k) zero = refl
num_zeros (suc k) (suc n) = rw (num_zeros k n)

no_rooms : (n : ℕ) → (hall_in (zeros n)).key_rooms ≡ 0
unfolding hall_in hall_for part
no_rooms n = num_zeros count_width n

pub zeros_unsound : (n : ℕ) → is_sound (zeros n) ≡ false
zeros_unsound n =
    by_bool (is_sound (zeros n)) (λ e. absurd (omega (arith, (sound_sizes (hall_in (zeros n)) (tested (zeros n) e).hall).keys.0, no_rooms n))) (λ e. e)

-- ---- two memories with one hall

pub same_bytes : (a b : Bytes) → Sound a → Sound b → hall_in a ≡ hall_in b
    → drop (needed (hall_in a).key_rooms (hall_in a).version_rooms) a ≡ drop (needed (hall_in a).key_rooms (hall_in a).version_rooms) b → a ≡ b
unfolding put_hall put_tables tables_for
same_bytes a b s t e d = s.same ∙ rw d (rw e (sym t.same))
