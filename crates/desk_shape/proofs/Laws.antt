-- The test of the form of desk memory, step by step: it holds exactly if desk memory is shaped. And the test of how keys ascend.
-- Assumes nothing.
use mathlib.Core.Path.{◌≡◌, refl, sym, ap, ◌∙◌}
use mathlib.Core.Bool.{Bool, true, false, ◌&&◌, and-true, cond}
use mathlib.Core.List.{List, [], ◌∷◌, ◌++◌, map, append_assoc}
use Prim.Native.Nat.{ℕ, suc, ◌+◌, ◌-◌, ◌*◌, ◌/◌, ◌%◌, ◌≤◌, ◌<◌}
use native.Mathlib.Nat.{add-zero}
use native.Mathlib.Numerals.{add-one}
use native.Mathlib.Omega.{arith}
use lib.Dec.{leb, eqb}
use borrow.Author.Tests.{leb-true, le-leb, lt-leb, eqb-true, eqb-false}
use lib.ListN.{length, get_or, take, drop, length-append, length-map, length-drop, take-append-drop}
use lib.Seq.{drop-cons, drop-drop, drop_at}
use Rattle.model.specs.Sizes.{max_key, max_desks, max_writes, number_width}
use Rattle.model.specs.Bytes.{Bytes, are_bytes, part}
use Rattle.model.specs.State.{Payload, Write, Writes, Transaction, Desk, free, taken, written_keys}
use Rattle.model.specs.Sound.{every, are_printable, key_fits, sound_payload, sound_writes}
use Rattle.model.proofs.Cases.{by_bool, and_intro, le_within, both}
use Rattle.model.proofs.Bytes.{are_bytes_split}
use Rattle.model.proofs.Order.{less_some}
use Rattle.memory.specs.Spans.{zeros, padded, all_zero}
use Rattle.cells.specs.Keys.{follows, all_follow}
use Rattle.memory.specs.Rows.{rows, joined, Sized, Each}
use Rattle.memory.proofs.Laws.Numbers.{both_true, are_bytes_part}
use Rattle.memory.proofs.Laws.Parts.{part_part, get_d_part, drop_take, part_add, part_all, length_part, bytes_part}
use Rattle.cells.specs.Cells.{key_width, is_key_cell, payload_width, payload_bytes, is_payload_cell, Short}
use Rattle.cells.proofs.Laws.Cells.{key_cell, key_put, key_short, length_payload, payload_get, payload_cell, payload_put, payload_short, payload_all}
use Rattle.desk.specs.Layout.{write_width, write_count_place, writes_place, desk_width, needed, count_in, desks_in, desks_place, occupied, write_bytes, desk_bytes, desks_bytes, write_from, taken_from, desks_from, occupied_in, put_desks}
use Rattle.desk.specs.Shape.{payload_place, Shaped, desk_in, own_writes, RoomForWrite, RoomForWrites, WritesFit, RoomForDesk, bit}
use Rattle.desk_writes.specs.Writes.{write_at, write_in}
use Rattle.desk_shape.specs.Tests.{row_fits, rows_fit, taken_fits, count_fits, desk_fits, desks_fit, shape_fits}
use Rattle.desk.proofs.Laws.Within.{rows_part}
use Rattle.desk_writes.proofs.Laws.Writes.{own_fits, write_room, payload_cell_in}
use Rattle.memory.proofs.Laws.Spans.{all_zero_zeros, zeros_of}
use Rattle.memory.proofs.Laws.Rows.{length_rows, sized_rows, joined_rows}
use Rattle.desk.proofs.Laws.Layout.{write_key, write_payload, front, length_front, desk_parts, desk_rows, desk_count_lem, length_writes, length_in, put_rows}
use Rattle.desk.proofs.Laws.Bits.{occupied_cons, occupied_low, occupied_high}
use Rattle.desk.proofs.Laws.Shaped.{occupied_in_lem}
use Rattle.desk.proofs.Laws.Desks.{free_row}
use Rattle.desk.proofs.Laws.Sound.{shaped_of}

-- ---- rows in turn

module _ (m : Bytes) (at w n i : ℕ) where
  pub rows_next : i < n → rows m (at + w * i) w (n - i) ≡ part m (at + w * i) w ∷ rows m (at + w * (i + 1)) w (n - (i + 1))
  unfolding rows
  rows_next h =
      let e : n - i ≡ suc (n - (i + 1)) = omega arith in
      let f : at + w * (i + 1) ≡ at + w * i + w = rw (add-one i) (omega arith) in
      rw (e, f)

  pub rows_end : n ≤ i → rows m (at + w * i) w (n - i) ≡ []
  unfolding rows
  rows_end h = let e : n - i ≡ 0 = omega arith in rw e

pub rows_first : (m : Bytes) (at w n : ℕ) → rows m (at + w * 0) w (n - 0) ≡ rows m at w n
rows_first m at w n =
    let e : at + w * 0 ≡ at = omega arith in
    let f : n - 0 ≡ n = omega arith in
    rw (e, f)

-- ---- one row, one desk, all

pub row_cells : (m : Bytes) (at : ℕ) → row_fits (part m at write_width) ≡ (is_key_cell (part m at key_width) && is_payload_cell (part m (at + key_width) payload_width))
unfolding row_fits
row_cells m at =
    let f : part (part m at write_width) 0 key_width ≡ part m at key_width = rw add-zero at (part_part m at write_width 0 key_width (omega arith)) in
    rw (f, part_part m at write_width key_width payload_width (omega arith))

module _ (m : Bytes) (at : ℕ) where
  abbrev bytes_of : Bytes
  bytes_of = part m at desk_width

  abbrev count : ℕ
  count = get_or m (at + write_count_place) 0

  abbrev used : ℕ
  used = writes_place + write_width * count

  rest_of : count ≤ max_writes → drop used bytes_of ≡ part m (at + used) (desk_width - used)
  unfolding part
  rest_of h =
      let e : desk_width ≡ used + (desk_width - used) = omega arith in
      ap (λ (k : ℕ). drop used (take k (drop at m))) e ∙ drop_take used _ _ ∙ rw drop-drop

  count_of : get_or bytes_of write_count_place 0 ≡ count
  count_of = get_d_part m at desk_width write_count_place (omega arith)

  pub taken_parts : count ≤ max_writes → taken_fits (get_or bytes_of write_count_place 0) bytes_of ≡ (rows_fit (rows m (at + writes_place) write_width count) && all_zero (part m (at + used) (desk_width - used)))
  unfolding taken_fits
  taken_parts h = rw (count_of, le-leb, rows_part m at desk_width writes_place write_width count (omega arith), rest_of h)

  pub taken_many : max_writes < count → false ≡ taken_fits (get_or bytes_of write_count_place 0) bytes_of
  unfolding taken_fits
  taken_many h = rw (count_of, lt-leb)

pub counted : (m : Bytes) → count_fits m ≡ true → (needed (count_in m) ≤ length m) × (count_in m ≤ max_desks)
unfolding count_fits
counted m e =
    let s = both_true _ _ e in
    (leb-true _ _ s.0, leb-true _ _ s.1)

-- ---- keys that ascend

payload_sound : (p : Payload) → Short p → are_bytes (payload_bytes p) ≡ true → sound_payload p ≡ true
payload_sound p s a = rw payload_get at (payload_all _ (length_payload p s) (payload_cell p s) a)

write_first : (last : Bytes) (w : Write) (ws : Writes) → length w.key ≤ max_key → sound_payload w.payload ≡ true
    → sound_writes last (w ∷ ws) ≡ (follows last w.key && sound_writes w.key ws)
unfolding sound_writes every key_fits
write_first last w ws h s =
    by_bool _
    (λ p. by_bool (are_printable w.key)
    (λ q. rw (p, q, le_within 1 max_key (length w.key) (less_some last w.key p) h, s) (and-true _))
    (λ q. rw (p, q, le_within 1 max_key (length w.key) (less_some last w.key p) h)))
    (λ p. rw p)

-- where payloads are sound and keys short, only the keys are left to test
writes_follow : (last : Bytes) (ws : Writes) → RoomForWrites ws → ((i : ℕ) → i < length ws → sound_payload (write_at ws i).payload ≡ true)
    → all_follow last (written_keys ws) ≡ sound_writes last ws
unfolding all_follow sound_writes
writes_follow last [] r f = refl
writes_follow last (w ∷ ws) r f =
    ap (λ (b : Bool). follows last w.key && b) (writes_follow _ ws r.1 (λ i h. f (suc i) (omega arith)))
    ∙ sym (write_first last w ws r.0.0 (f 0 (omega arith)))

module _ (m : Bytes) (s : Shaped m) (d : ℕ) (h : d < length (desks_in m)) (a : are_bytes m ≡ true) where
  payload_in : (i : ℕ) → i < length (own_writes (desk_in m d)) → sound_payload (write_in m d i).payload ≡ true
  payload_in i l =
      payload_sound _ (write_room m s d h i l).1
      (rw payload_cell_in at (are_bytes_part m (payload_place d i) payload_width a))

  pub own_follow : all_follow [] (written_keys (own_writes (desk_in m d))) ≡ sound_writes [] (own_writes (desk_in m d))
  own_follow = writes_follow [] _ (own_fits m s d h) payload_in

-- ---- shaped memory passes

rows_pass : (ws : Writes) → RoomForWrites ws → rows_fit (map write_bytes ws) ≡ true
unfolding rows_fit row_fits
rows_pass [] r = refl
rows_pass (w ∷ ws) ((h, s), r) = rw (write_key, write_payload, key_cell, payload_cell) (rows_pass ws r)

-- zeros come after the rows of a desk
rest_zero : (x : Transaction) → RoomForDesk (taken x) → all_zero (drop (writes_place + write_width * length x.writes) (desk_bytes (taken x))) ≡ true
unfolding padded
rest_zero x r =
    let n : ℕ = length x.writes in
    let f : Bytes = front x.start n in
    let js : Bytes = joined (map write_bytes x.writes) in
    let z : Bytes = zeros (write_width * max_writes - length js) in
    let l : length (f ++ js) ≡ writes_place + write_width * n =
    rw (length-append, length_front, length_writes x.writes r.1.1) in
    rw (desk_parts x, ← append_assoc, drop_at) (all_zero_zeros (write_width * max_writes - length js))

desk_passes : (d : Desk) (ds : List Desk) → RoomForDesk d → desk_fits (occupied (d ∷ ds)) (desk_bytes d) ≡ true
unfolding desk_fits taken_fits
desk_passes free ds r = rw (occupied_low, ← free_row) (all_zero_zeros desk_width)
desk_passes (taken x) ds r =
    rw (occupied_low (taken x) ds, desk_count_lem x, desk_rows x r)
    (and_intro (le-leb (length x.writes) max_writes r.1.0) (and_intro (rows_pass x.writes r.1.1) (rest_zero x r)))

desks_pass : (ds : List Desk) → Each RoomForDesk ds → desks_fit (occupied ds) (map desk_bytes ds) ≡ true
unfolding desks_fit occupied
desks_pass [] r = refl
desks_pass (d ∷ ds) r = and_intro (desk_passes d ds r.0) (rw occupied_high (desks_pass ds r.1))

pub shape_passes : (m : Bytes) → Shaped m → shape_fits m ≡ true
unfolding shape_fits count_fits
shape_passes m s =
    let e : rows m desks_place desk_width (count_in m) ≡ map desk_bytes (desks_in m) =
    ap (λ (b : Bytes). rows b desks_place desk_width (count_in b)) s.same ∙ put_rows m _ s.room in
    let c : (leb (needed (count_in m)) (length m) && leb (count_in m) max_desks) ≡ true =
    rw (← length_in m) (and_intro (le-leb _ _ s.long) (le-leb _ _ s.room.count)) in
    and_intro c (rw (e, occupied_in_lem) (desks_pass _ s.room.each))

-- ---- bytes that pass are those of what they say

row_said : (r : Bytes) → are_bytes r ≡ true → length r ≡ write_width → row_fits r ≡ true → RoomForWrite (write_from r) × (write_bytes (write_from r) ≡ r)
unfolding row_fits write_from write_bytes
row_said r a l f =
    let k : Bytes = part r 0 key_width in
    let p : Bytes = part r key_width payload_width in
    let kl : length k ≡ key_width = length_part r 0 _ (omega arith) in
    let pl : length p ≡ payload_width = length_part r _ _ (omega arith) in
    let t = both_true _ _ f in (
      (key_short k kl t.0, payload_short p pl t.1),
      rw (key_put k kl t.0, payload_put p (are_bytes_part r key_width payload_width a) pl t.1) (sym (part_add r 0 key_width payload_width) ∙ part_all r write_width l),
    )

rows_said : (rs : List Bytes) → are_bytes (joined rs) ≡ true → Sized write_width rs → rows_fit rs ≡ true → RoomForWrites (map write_from rs) × (map write_bytes (map write_from rs) ≡ rs)
unfolding rows_fit joined Sized
rows_said [] a l f = (tt, refl)
rows_said (r ∷ rs) a l f =
    let b = are_bytes_split r _ a in
    let t = both_true _ _ f in
    let x = row_said r b.0 l.0 t.0 in
    let others = rows_said rs b.1 l.1 t.1 in
    ((x.0, others.0), both x.1 others.1)

-- a list by its front, one more, a part and the rest
whole : (b : Bytes) (p k : ℕ) → p < length b → part b 0 p ++ (get_or b p 0 ∷ (part b (suc p) k ++ drop (suc p + k) b)) ≡ b
unfolding part
whole b p k h = rw (← drop-drop, take-append-drop, ← drop-cons, take-append-drop)

module _ (b : Bytes) (a : are_bytes b ≡ true) (l : length b ≡ desk_width) (f : taken_fits (get_or b write_count_place 0) b ≡ true) where
  abbrev n : ℕ
  n = get_or b write_count_place 0

  abbrev rs : List Bytes
  rs = rows b writes_place write_width n

  taken_tests : (n ≤ max_writes) × ((rows_fit rs ≡ true) × (all_zero (drop (writes_place + write_width * n) b) ≡ true))
  unfolding taken_fits
  taken_tests =
      let z : Bytes = drop (writes_place + write_width * n) b in
      let t = both_true _ _ f in
      (leb-true n _ t.0, both_true _ _ t.1)

  taken_rows : RoomForWrites (map write_from rs) × (map write_bytes (map write_from rs) ≡ rs)
  taken_rows =
      rows_said rs (rw (joined_rows b writes_place write_width n) (are_bytes_part b writes_place (write_width * n) a))
      (sized_rows b writes_place write_width n (omega (arith, taken_tests.0))) taken_tests.1.0

  taken_count : length (map write_from rs) ≡ n
  taken_count = length-map rs write_from ∙ length_rows b _ _ n

  taken_fits_lem : WritesFit (taken_from b)
  unfolding taken_from
  taken_fits_lem = (rw taken_count taken_tests.0, taken_rows.0)

  -- the zeros after the rows
  taken_zeros : zeros (write_width * max_writes - length (part b writes_place (write_width * n))) ≡ drop (writes_place + write_width * n) b
  taken_zeros =
      let k : length (part b writes_place (write_width * n)) ≡ write_width * n =
      length_part b _ _ (omega (arith, taken_tests.0)) in
      let d : length (drop (writes_place + write_width * n) b)
      ≡ write_width * max_writes - length (part b writes_place (write_width * n)) =
      rw (length-drop, l) (omega arith) in
      sym (zeros_of _ _ d taken_tests.1.1)

  taken_said : desk_bytes (taken_from b) ≡ b
  unfolding taken_from desk_bytes padded
  taken_said =
      rw (
        taken_count,
        taken_rows.1,
        joined_rows b writes_place write_width n,
        bytes_part b 0 number_width a (omega arith),
        taken_zeros,
      ) (whole b write_count_place (write_width * n) (omega arith))

-- ---- desks that their bytes say

module _ (o : ℕ) (b : Bytes) (a : are_bytes b ≡ true) (l : length b ≡ desk_width) (f : desk_fits o b ≡ true) where
  abbrev said : Desk
  said = cond (eqb (o % 2) 0) free (taken_from b)

  desk_said : WritesFit said × ((desk_bytes said ≡ b) × (bit said ≡ o % 2))
  unfolding desk_fits taken_from
  desk_said =
      by_bool (eqb (o % 2) 0)
      (λ p. rw p (tt, (sym (zeros_of b desk_width l (rw p at f) ∙ free_row), sym (eqb-true (o % 2) 0 p))))
      (λ p. let g : taken_fits (get_or b write_count_place 0) b ≡ true = rw p at f in
      let z = eqb-false (o % 2) 0 p in
      rw p (taken_fits_lem b a l g, (taken_said b a l g, omega arith)))

desks_said : (o : ℕ) (bs : List Bytes) → are_bytes (joined bs) ≡ true → Sized desk_width bs → desks_fit o bs ≡ true
    → Each WritesFit (desks_from o bs) × ((map desk_bytes (desks_from o bs) ≡ bs) × (occupied (desks_from o bs) ≡ o))
unfolding desks_fit desks_from joined Sized occupied
desks_said o [] a l f = (tt, (refl, sym (eqb-true o 0 f)))
desks_said o (b ∷ bs) a l f =
    let c = are_bytes_split b (joined bs) a in
    let t = both_true (desk_fits o b) (desks_fit (o / 2) bs) f in
    let x = desk_said o b c.0 l.0 t.0 in
    let others = desks_said (o / 2) bs c.1 l.1 t.1 in
    ((x.0, others.0), (both x.1.0 others.1.0, occupied_cons (cond (eqb (o % 2) 0) free (taken_from b)) (desks_from (o / 2) bs) ∙ rw (x.1.1, others.1.1) (omega arith)))

module _ (m : Bytes) (a : are_bytes m ≡ true) (f : shape_fits m ≡ true) where
  abbrev k : ℕ
  k = count_in m

  tests : ((needed k ≤ length m) × (k ≤ max_desks)) × (desks_fit (occupied_in m) (rows m desks_place desk_width k) ≡ true)
  unfolding shape_fits
  tests =
      let t = both_true _ _ f in
      (counted m t.0, t.1)

  desks_in_lem : Each WritesFit (desks_in m) × ((map desk_bytes (desks_in m) ≡ rows m desks_place desk_width k) × (occupied (desks_in m) ≡ occupied_in m))
  unfolding desks_in
  desks_in_lem =
      desks_said (occupied_in m) (rows m desks_place desk_width k) (rw (joined_rows m desks_place desk_width k) (are_bytes_part m desks_place (desk_width * k) a))
      (sized_rows m desks_place desk_width k tests.0.0) tests.1

  said_same : m ≡ put_desks m (desks_in m)
  unfolding put_desks desks_bytes
  said_same =
      let h = tests.0.0 in
      sym (rw (
        length_in m,
        desks_in_lem.1.0,
        desks_in_lem.1.1,
        joined_rows m desks_place desk_width k,
        bytes_part m 0 number_width a (omega arith),
        append_assoc,
      ) (whole m number_width (desk_width * k) (omega arith)))

  pub shape_tested : Shaped m
  shape_tested = shaped_of m (rw (length_in m) tests.0.0) (rw (length_in m) tests.0.1) desks_in_lem.0 said_same
