-- A desk taken, closed, read; all desks made free.
-- Assumes nothing.
use mathlib.Core.Path.{◌≡◌, refl, sym, ap, ◌∙◌}
use mathlib.Core.List.{List, [], ◌∷◌, ◌++◌, map, append_assoc, append-nil}
use Rattle.std.specs.Prelude.{Some}
use Prim.Native.Nat.{ℕ, zero, suc, ◌+◌, ◌-◌, ◌*◌, ◌/◌, ◌%◌, ◌^◌, ◌≤◌, ◌<◌}
use native.Mathlib.Nat.{add-zero}
use native.Mathlib.Numerals.{add-one}
use native.Mathlib.Omega.{arith}
use lib.ListN.{length, get_or, drop, drop_of_length-le, set, replicate, length-replicate, get_or-replicate, replicate-append-replicate}
use lib.Seq.{sets, sets-eq, drop-cons}
use lib.Bits.{bit_and, bit_or}
use Rattle.model.specs.Sizes.{max_desks, number_width}
use Rattle.model.specs.Bytes.{Bytes, part, num, bytes}
use Rattle.model.specs.State.{Desk, free, taken, free_desk, begun, seat}
use Rattle.memory.specs.Spans.{zeros, padded}
use Rattle.memory.specs.Rows.{joined}
use Rattle.memory.proofs.Laws.Each.{each_at}
use Rattle.memory.proofs.Laws.Numbers.{length_bytes, num_bytes}
use Rattle.memory.proofs.Laws.Parts.{get_d_part, part_part, sets_mid}
use Rattle.desk.specs.Layout.{desk_place, write_count_place, desk_width, desk_count_place, needed, occupied, desk_bytes, desks_bytes, occupied_in, desks_in, put_desks}
use Rattle.desk.specs.Shape.{RoomForDesk, Shaped, desk_in, start_of, own_writes, BitIn}
use Rattle.desk.proofs.Laws.Bits.{occupied_low, occupied_high, or_taken, and_free, one_shl}
use Rattle.desk.proofs.Laws.Layout.{length_desk, desk_start, desk_count_lem}
use Rattle.desk.proofs.Laws.Shaped.{occupied_in_lem, below_max, desk_part, desk_stored}
use Rattle.desk.proofs.Laws.Starts.{free_at}

-- ---- a desk's own fields

start_bytes : (x : Desk) → RoomForDesk x → num (part (desk_bytes x) 0 number_width) ≡ start_of x
unfolding desk_bytes num part
start_bytes free r = refl
start_bytes (taken x) r = ap num (desk_start x) ∙ num_bytes _ _ r.0

count_bytes : (x : Desk) → RoomForDesk x → get_or (desk_bytes x) write_count_place 0 ≡ length (own_writes x)
unfolding desk_bytes
count_bytes free r = get_or-replicate {A = ℕ} desk_width write_count_place 0 0 (omega arith)
count_bytes (taken x) r = desk_count_lem x

module _ (m : Bytes) (s : Shaped m) (d : ℕ) (h : d < length (desks_in m)) where
  pub room_in_lem : RoomForDesk (desk_in m d)
  room_in_lem = each_at RoomForDesk (desks_in m) d free s.room.each h

  pub start_in_lem : num (part m (desk_place d) number_width) ≡ start_of (desk_in m d)
  start_in_lem =
      let e : part m (desk_place d) number_width ≡ part (desk_bytes (desk_in m d)) 0 number_width =
      rw add-zero at (sym (part_part m (desk_place d) desk_width 0 number_width (omega arith))) ∙ ap (λ (b : Bytes). part b 0 number_width) (desk_part m s d h) in
      rw e (start_bytes _ room_in_lem)

  pub count_in_lem : get_or m (desk_place d + write_count_place) 0 ≡ length (own_writes (desk_in m d))
  count_in_lem =
      sym (get_d_part m _ _ _ (omega arith)) ∙ ap (λ (b : Bytes). get_or b write_count_place 0) (desk_part m s d h)
      ∙ count_bytes _ room_in_lem

-- ---- walking over desks: those from desk d on are to come, b being their bits

pub record Walking (m : Bytes) (n b d : ℕ) : Type 0 where
  pub shaped : Shaped m
  pub count : n ≡ length (desks_in m)
  pub bits : b ≡ occupied (drop d (desks_in m))

pub walk_start : {m : Bytes} {n b : ℕ} → Shaped m → n ≡ length (desks_in m) → b ≡ occupied_in m → Walking m n b 0
walk_start {m} s e f = record { shaped = s; count = e; bits = f ∙ occupied_in_lem m s }

module _ {m : Bytes} {n b d : ℕ} (g : Walking m n b d) where
  abbrev ds : List Desk
  ds = desks_in m

  pub walk_end : n ≤ d → drop d (desks_in m) ≡ []
  walk_end h = drop_of_length-le ds {i = d} (omega arith)

  module _ (h : d < n) where
    pub walk_below : d < length (desks_in m)
    walk_below = omega arith

    -- what is asked of one desk
    pub walk_asks : BitIn m b d
    walk_asks =
        record {
          shaped = g.shaped;
          below = walk_below;
          low = rw (g.bits, drop-cons ds d free walk_below) (occupied_low _ _);
        }

    pub walk_on : Walking m n (b / 2) (d + 1)
    walk_on =
        record {
          shaped = g.shaped;
          count = g.count;
          bits = rw (g.bits, drop-cons ds d free walk_below, add-one d) (occupied_high _ _);
        }

-- ---- taken and closed

pub free_row : zeros desk_width ≡ desk_bytes free
unfolding desk_bytes
free_row = refl

taken_row : (t : ℕ) → sets (desk_bytes free) 0 (bytes number_width t) ≡ desk_bytes (taken (begun t))
unfolding desk_bytes padded joined
taken_row t =
    let n : ℕ = desk_width - number_width in
    ap (λ (b : Bytes). sets b 0 (bytes number_width t)) (sym (replicate-append-replicate {A = ℕ} number_width n 0))
    ∙ sets_mid [] (zeros number_width) _ (bytes number_width t) 0 refl
    (length-replicate {A = ℕ} number_width 0 ∙ sym (length_bytes _ t))

module _ (m : Bytes) (s : Shaped m) (d : ℕ) where
  pub free_below : free_desk (desks_in m) ≡ Some d → d < length (desks_in m)
  free_below f = (free_at _ d f).below

  -- the bit set, then the start stored
  pub seat_stored : {b t : ℕ} {m₁ m₂ : Bytes} → free_desk (desks_in m) ≡ Some d → t < 256 ^ number_width → b ≡ occupied_in m
      → m₁ ≡ sets m 0 (bytes number_width (bit_or b (1 * 2 ^ d % 2 ^ max_desks))) → m₂ ≡ sets m₁ (desk_place d) (bytes number_width t)
      → m₂ ≡ put_desks m (seat t (desks_in m))
  seat_stored {b} {t} {m₁} f l o p q =
      let ds : List Desk = desks_in m in
      let a = free_at ds d f in
      let h : d < length ds = free_below f in
      let e : bit_or b (1 * 2 ^ d % 2 ^ max_desks) ≡ occupied (set ds d (taken (begun t))) =
      rw (o, occupied_in_lem m s, one_shl max_desks d (below_max m s d h)) (or_taken ds d (begun t) h) in
      let g : sets (desk_bytes (desk_in m d)) 0 (bytes number_width t) ≡ desk_bytes (taken (begun t)) = rw a.vacant (taken_row t) in
      let r : RoomForDesk (taken (begun t)) = (l, (omega arith, tt)) in
      q ∙ rw (p, e, a.seats t) (rw add-zero at (desk_stored m s d h 0 (bytes number_width t) (taken (begun t)) r (rw (length_bytes number_width t) (omega arith)) g))

  -- the bit cleared, then the desk's bytes
  pub free_stored : {b : ℕ} {m₁ m₂ : Bytes} → d < length (desks_in m) → b ≡ occupied_in m
      → m₁ ≡ sets m 0 (bytes number_width (bit_and b (2 ^ max_desks - 1 - (1 * 2 ^ d % 2 ^ max_desks)))) → m₂ ≡ sets m₁ (desk_place d) (zeros desk_width)
      → m₂ ≡ put_desks m (set (desks_in m) d free)
  free_stored {b} {m₁} h o p q =
      let ds : List Desk = desks_in m in
      let e : bit_and b (2 ^ max_desks - 1 - (1 * 2 ^ d % 2 ^ max_desks)) ≡ occupied (set ds d free) =
      rw (o, occupied_in_lem m s, one_shl max_desks d (below_max m s d h)) (and_free ds max_desks d s.room.count h) in
      let g : sets (desk_bytes (desk_in m d)) 0 (desk_bytes free) ≡ desk_bytes free =
      simp append-nil at (sets_mid [] (desk_bytes (desk_in m d)) [] (desk_bytes free) 0 refl (length_desk (desk_in m d) (room_in_lem m s d h) ∙ sym (length_desk free tt))) in
      q ∙ ap (λ (z : Bytes). sets m₁ (desk_place d) z) free_row ∙ rw (p, e) (rw add-zero at (desk_stored m s d h 0 (desk_bytes free) free tt (rw (length_desk free tt) (omega arith)) g))

-- ---- all free

occupied_none : (n : ℕ) → occupied (replicate n free) ≡ 0
unfolding occupied
occupied_none zero = refl
occupied_none (suc n) = rw (occupied_none n)

rows_none : (n : ℕ) → joined (map desk_bytes (replicate n free)) ≡ zeros (desk_width * n)
unfolding joined desk_bytes
rows_none zero = refl
rows_none (suc n) =
    let e : desk_width * suc n ≡ desk_width + desk_width * n = omega arith in
    rw (e, rows_none n) (replicate-append-replicate {A = ℕ} desk_width (desk_width * n) 0)

-- all zeros, then the count of desks stored
pub made : (m : Bytes) {m₁ m₂ : Bytes} (n : ℕ) → needed n ≤ length m → m₁ ≡ sets m 0 (zeros (needed n)) → m₂ ≡ sets m₁ desk_count_place (n ∷ [])
    → m₂ ≡ put_desks m (replicate n free)
unfolding put_desks desks_bytes bytes
made m {m₁} n h p q =
    let k : ℕ = needed n in
    let a : Bytes = zeros desk_count_place in
    let z : Bytes = zeros (desk_width * n) in
    let l : 0 + length (zeros k) ≡ k = omega (arith, length-replicate {A = ℕ} k 0) in
    let j : k ≡ desk_count_place + suc (desk_width * n) = omega arith in
    let e : zeros k ≡ a ++ (0 ∷ z) = ap (λ (i : ℕ). zeros i) j ∙ sym (replicate-append-replicate {A = ℕ} desk_count_place (suc (desk_width * n)) 0) in
    let f : m₁ ≡ a ++ (0 ∷ (z ++ drop k m)) = p ∙ rw (sets-eq (zeros k) m 0 (omega (arith, l)), l, e, append_assoc) in
    let g : length a ≡ desk_count_place = length-replicate {A = ℕ} desk_count_place 0 in
    q ∙ rw (f, sets_mid a (0 ∷ []) (z ++ drop k m) (n ∷ []) desk_count_place g refl, occupied_none n, rows_none n, length-replicate {A = Desk} n free, append_assoc a (n ∷ z) (drop k m))
