-- Sound desk memory: it is shaped, its test is true, and sound desks make it.
-- Assumes nothing.
use mathlib.Core.Path.{◌≡◌, refl, sym, ap, ◌∙◌, subst}
use mathlib.Core.Bool.{true, false, cond}
use mathlib.Core.List.{List, [], ◌∷◌, ◌++◌, map}
use Prim.Native.Nat.{ℕ, zero, suc, ◌/◌, ◌%◌, ◌^◌, ◌≤◌, ◌<◌}
use native.Mathlib.Omega.{arith}
use lib.Dec.{eqb}
use borrow.Author.Tests.{leb-true, le-leb, eqb-true}
use lib.ListN.{length, take, drop, get_or, length-append}
use lib.Seq.{take_at, drop_at}
use Rattle.model.specs.Sizes.{max_desks, number_width}
use Rattle.model.specs.Bytes.{Bytes, num, bytes}
use Rattle.model.specs.State.{Payload, deletion, content, Hall, Writes, Transaction, Desk, free, taken}
use Rattle.model.specs.Sound.{value_fits, sound_payload, sound_writes, sound_open, sound_desks}
use Rattle.model.proofs.Cases.{by_bool, zero_one, and_left, and_right, and_intro, every_all, within_le, key_parts}
use Rattle.model.proofs.Order.{order_refl, order_eq, same_eq}
use Rattle.model_laws.proofs.Desks.{Distinct}
use Rattle.model_laws.proofs.Tested.{open_parts}
use Rattle.memory.specs.Spans.{zeros}
use Rattle.memory.specs.Rows.{rows, Each}
use Rattle.memory.proofs.Laws.Numbers.{both_true, length_bytes, num_bound, are_bytes_bytes}
use Rattle.cells.specs.Cells.{Short}
use Rattle.desk.specs.Layout.{desk_width, desks_place, needed, desk_bytes, desks_bytes, taken_from, desks_from, occupied_in, count_in, desks_in, put_desks, is_sound, Sound}
use Rattle.desk.specs.Shape.{RoomForWrites, WritesFit, RoomForDesk, RoomFor, Shaped, start_of}
use Rattle.desk.proofs.Laws.Layout.{desk_start, length_in, rows_put, length_desks, desks_get, put_put, put_length}

-- ---- desks that their bytes say have starts that fit

start_fits : (x : Transaction) → taken_from (desk_bytes (taken x)) ≡ taken x → x.start < 256 ^ number_width
unfolding taken_from
start_fits x e =
    let f : num (bytes number_width x.start) ≡ x.start = ap num (sym (desk_start x)) ∙ ap (λ (d : Desk). start_of d) e in
    rw (length_bytes, f) at (num_bound _ (are_bytes_bytes number_width x.start))

starts_fit : (o : ℕ) (ds : List Desk) → Each WritesFit ds → desks_from o (map desk_bytes ds) ≡ ds → Each RoomForDesk ds
unfolding desks_from
starts_fit o [] w e = tt
starts_fit o (free ∷ ds) w e = (tt, starts_fit (o / 2) ds w.1 (cc e))
starts_fit o (taken x ∷ ds) w e =
    let f : cond (eqb (o % 2) 0) free (taken_from (desk_bytes (taken x))) ≡ taken x = cc e in (
      by_bool (eqb (o % 2) 0)
          (λ p. zero_one (cc (rw p at f)))
          (λ p. (start_fits x (rw p at f), w.0)),
      starts_fit (o / 2) ds w.1 (cc e),
    )

module _ (m : Bytes) (long : needed (length (desks_in m)) ≤ length m) (count : length (desks_in m) ≤ max_desks) (fit : Each WritesFit (desks_in m)) (same : m ≡ put_desks m (desks_in m)) where
  rows_said : rows m desks_place desk_width (count_in m) ≡ map desk_bytes (desks_in m)
  rows_said =
      ap (λ (n : ℕ). rows m desks_place desk_width n) (sym (length_in m))
      ∙ ap (λ (b : Bytes). rows b desks_place desk_width (length (desks_in m))) same
      ∙ rows_put m _ fit

  pub shaped_of : Shaped m
  unfolding desks_in
  shaped_of =
      record {
        long = long;
        room = record { count = count; each = starts_fit _ _ fit (ap (desks_from (occupied_in m)) (sym rows_said)) };
        same = same;
      }

-- ---- what sound desks have room in

short_of : (p : Payload) → sound_payload p ≡ true → Short p
unfolding sound_payload value_fits
short_of deletion e = tt
short_of (content b) e = leb-true _ _ (and_left _ _ e)

room_writes : (last : Bytes) (ws : Writes) → sound_writes last ws ≡ true → RoomForWrites ws
unfolding sound_writes
room_writes last [] e = tt
room_writes last (w ∷ ws) e =
    let a = every_all _ e in
    (((key_parts _ a.1.0).1, short_of _ a.1.1.0), room_writes _ ws a.1.1.1.0)

fit_open : (h : Hall) (ds : List Desk) → sound_open h ds ≡ true → Each WritesFit ds
unfolding sound_open
fit_open h [] e = tt
fit_open h (free ∷ ds) e = (tt, fit_open h ds e)
fit_open h (taken x ∷ ds) e =
    let a = every_all _ e in
    ((leb-true _ _ a.1.1.1.0, room_writes [] _ a.1.1.1.1.0), fit_open h ds a.1.1.1.1.1.0)

room_open : (h : Hall) (ds : List Desk) → h.counter < 256 ^ number_width → sound_open h ds ≡ true → Each RoomForDesk ds
unfolding sound_open
room_open h [] l e = tt
room_open h (free ∷ ds) l e = (tt, room_open h ds l e)
room_open h (taken x ∷ ds) l e =
    let a = every_all _ e in
    let b = within_le 1 _ x.start a.0 in
    ((omega arith, (fit_open h (taken x ∷ ds) e).0), room_open h ds l a.1.1.1.1.1.0)

module _ (h : Hall) (ds : List Desk) (e : sound_desks h ds ≡ true) where
  pub all_there : length ds ≡ h.desk_count
  unfolding sound_desks
  all_there = eqb-true _ _ (and_left _ _ e)

  pub all_open : sound_open h ds ≡ true
  unfolding sound_desks
  all_open = and_right (eqb (length ds) h.desk_count) _ e

  pub sound_room : h.desk_count ≤ max_desks → h.counter < 256 ^ number_width → RoomFor ds
  sound_room f l = record { count = rw all_there f; each = room_open h ds l all_open }

  pub distinct : Distinct ds
  distinct = (open_parts h ds all_open).distinct

-- ---- sound memory

module _ (h : Hall) (m : Bytes) where
  pub sound_shaped : Sound h m → Shaped m
  sound_shaped s = shaped_of m s.long s.few (fit_open h _ (all_open h _ s.desks)) s.same

  pub sound_distinct : Sound h m → Distinct (desks_in m)
  sound_distinct s = distinct h (desks_in m) s.desks

  put_room : (ds : List Desk) → RoomFor ds → sound_desks h ds ≡ true → needed (length ds) ≤ length m → Sound h (put_desks m ds)
  put_room ds r e n = record { long = rw (put_length m ds r n, desks_get m ds r) n; few = rw (desks_get m ds r) r.count; desks = rw (desks_get m ds r) e; same = rw (desks_get m ds r, put_put m ds r ds refl) }

  pub put_sound : (ds : List Desk) → h.desk_count ≤ max_desks → h.counter < 256 ^ number_width → sound_desks h ds ≡ true → needed (length ds) ≤ length m → Sound h (put_desks m ds)
  put_sound ds f l e n = put_room ds (sound_room h ds e f l) e n

  pub tested : h.desk_count ≤ max_desks → is_sound h m ≡ true → Sound h m
  unfolding is_sound
  tested f e =
      let ds : List Desk = desks_in m in
      let a = both_true _ _ e in
      let b = both_true _ _ a.1 in
      record {
        long = leb-true _ _ a.0;
        few = rw (all_there h ds b.0) f;
        desks = b.0;
        same = order_eq m _ (same_eq _ b.1);
      }

  pub tests : Sound h m → is_sound h m ≡ true
  unfolding is_sound
  tests s = and_intro (le-leb _ _ s.long) (and_intro s.desks (rw (← s.same, order_refl m)))

-- ---- memories of zeros, and what stands past the needed length

zero_at : (n i : ℕ) → get_or (zeros n) i 0 ≡ 0
zero_at zero i = refl
zero_at (suc n) zero = refl
zero_at (suc n) (suc i) = zero_at n i

-- a memory of zeros has no desks
pub zeros_unsound : (h : Hall) (n : ℕ) → 1 ≤ h.desk_count → h.desk_count ≤ max_desks → is_sound h (zeros n) ≡ false
zeros_unsound h n l f =
    let e : length (desks_in (zeros n)) ≡ 0 = length_in _ ∙ zero_at n _ in
    by_bool _ (λ q. absurd (omega (arith, e, all_there h (desks_in (zeros n)) (tested h (zeros n) f q).desks))) (λ q. q)

pub sound_past : (h : Hall) (m x : Bytes) → Sound h m
    → Sound h (take (needed (length (desks_in m))) m ++ x) × (desks_in (take (needed (length (desks_in m))) m ++ x) ≡ desks_in m)
unfolding put_desks
sound_past h m x s =
    let ds : List Desk = desks_in m in
    let n : ℕ = needed (length ds) in
    let t : Bytes = desks_bytes ds in
    let r : RoomFor ds = (sound_shaped h m s).room in
    let l : length t ≡ n = length_desks m ds r in
    let e : t ≡ take n m = sym (take_at t (drop n m) n l) ∙ ap (take n) (sym s.same) in
    let k : n ≤ length (t ++ x) = rw length-append (omega arith) in
    let p : put_desks (t ++ x) ds ≡ take n m ++ x = ap (λ (y : Bytes). t ++ y) (drop_at t x n l) ∙ ap (λ (y : Bytes). y ++ x) e in
    subst (λ (y : Bytes). Sound h y × (desks_in y ≡ ds)) p (put_room h (t ++ x) ds r s.desks k, desks_get (t ++ x) ds r)

-- two memories with the same desks, and the same bytes past them
pub same_bytes : (h k : Hall) (a b : Bytes) → Sound h a → Sound k b → desks_in a ≡ desks_in b → drop (needed (length (desks_in a))) a ≡ drop (needed (length (desks_in b))) b → a ≡ b
unfolding put_desks
same_bytes h k a b s t e d = s.same ∙ ap (λ (z : Bytes). desks_bytes (desks_in a) ++ z) d ∙ ap (λ (ds : List Desk). desks_bytes ds ++ drop (needed (length (desks_in b))) b) e ∙ sym t.same
