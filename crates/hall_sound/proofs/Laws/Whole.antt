-- All the tests together say that a memory is sound.
-- Assumes nothing.
use mathlib.Core.Path.{◌≡◌, refl, sym, ap, ◌∙◌, subst}
use mathlib.Core.Bool.{Bool, true, false, ◌&&◌}
use mathlib.Core.List.{List, [], ◌∷◌, ◌++◌, append_assoc}
use Prim.Native.Nat.{ℕ, zero, suc, ◌+◌, ◌-◌, ◌≤◌, ◌<◌}
use native.Mathlib.Nat.{not-suc-le-zero, le_of_suc-le-suc}
use native.Mathlib.Numerals.{add-one}
use native.Mathlib.Omega.{arith}
use borrow.Author.Tests.{ltb-true, leb-true, le-leb, eqb-true, eq-eqb}
use lib.Dec.{leb, ltb}
use lib.ListN.{length, get_or, take, drop, length-append, length-drop}
use lib.Seq.{slice, slice-cons, slice_empty, drop-drop, take_at, drop_at}
use Rattle.model.specs.Sizes.{max_key, last_number, number_width}
use Rattle.model.specs.Bytes.{Bytes, are_bytes, part, order, is_less}
use Rattle.model.specs.State.{Version, Chain, Entry, Hall, version_count}
use Rattle.model.specs.Sound.{every, are_printable, sound_payload, sound_chain, sound_entries, sound_hall}
use Rattle.model.proofs.Cases.{and_intro, and_left, and_right, every_all, all_every, key_parts, good_key}
use Rattle.model.proofs.Order.{less_some}
use Rattle.memory.specs.Rows.{rows, Each}
use Rattle.memory.proofs.Laws.Numbers.{are_bytes_part}
use Rattle.memory.proofs.Laws.Parts.{drop_take}
use Rattle.memory.proofs.Laws.Tests.{same_test, fails_too, all_at, all_of}
use Rattle.memory.proofs.Laws.Each.{each_append, each_take, each_drop}
use Rattle.cells.specs.Cells.{payload_width}
use Rattle.cells.specs.Keys.{follows, all_follow}
use Rattle.cells.proofs.Laws.Cells.{payload_all}
use Rattle.hall.specs.Layout.{head_size, row_width, version_width, version_base, needed, Row, Tables, older, latest, rows_of, newests_of, olders_of, entries_of, tables_for, hall_for, table_bytes, row_from, version_from, key_rooms_in, counter_in, floor_in, key_count_in, version_count_in, keys_in, versions_in, tables_in, hall_in, put_tables, put_hall, is_sound, Sound}
use Rattle.hall.specs.Tables.{Shaped, no_version, row_at, row_keys, version_at, end_before, Ends, Ranged}
use Rattle.hall.proofs.Laws.Tables.{good_row, length_tables, payload_length}
use Rattle.hall.proofs.Laws.Halls.{older_latest, length_older, length_latest, tables_get, rows_total, versions_total, good_hall}
use Rattle.hall.proofs.Laws.Chains.{one_first, olders_are}
use Rattle.hall.proofs.Laws.Sound.{put_sound, hall_read, hall_counter, sound_shaped, keys_are, versions_are, keys_counted, sound_ranged, shaped_sound, tested, tests}
use Rattle.hall_shape.specs.Tests.{shape_tests}
use Rattle.hall_sound.specs.Tests.{ascends, row_tests, row_test, olders_in, row_of, order_tests}
use Rattle.hall_shape.proofs.Laws.{each_from, KeyRow, VersionRow, key_rows_are, version_rows_are, shape_shaped, shaped_tests}

-- ---- keys and payloads that are read from bytes

abbrev ShortRow : Row → Type 0
ShortRow r = length r.key ≤ max_key

abbrev SoundVersion : Version → Type 0
SoundVersion v = sound_payload v.payload ≡ true

short_row : (b : Bytes) → KeyRow b → ShortRow (row_from b)
short_row b r = (good_row b r.all r.size r.cell).short

sound_version : (b : Bytes) → VersionRow b → SoundVersion (version_from b)
unfolding version_from
sound_version b r = payload_all (part b number_width payload_width) (payload_length b r.all r.size r.cell) r.cell (are_bytes_part b number_width payload_width r.all)

-- ---- a chain

chain_same : (last top : ℕ) (vs : Chain) → Each SoundVersion vs → sound_chain last top vs ≡ ascends last top vs
unfolding sound_chain ascends every
chain_same last top [] a = refl
chain_same last top (v ∷ vs) a = rw (a.0, chain_same v.number top vs a.1)

chain_ascends : (last top : ℕ) (vs : Chain) → sound_chain last top vs ≡ true → ascends last top vs ≡ true
unfolding sound_chain ascends
chain_ascends last top [] s = refl
chain_ascends last top (v ∷ vs) s =
    let a = every_all _ s in
    all_every _ (a.0, (a.1.0, (chain_ascends v.number top vs a.1.1.1.0, tt)))

-- a number that another follows needs no test against `top`: the one after it is greater, and is tested
below_top : (n top : ℕ) (v : Version) (vs : Chain) → ascends n top (v ∷ vs) ≡ true → n ≤ top
unfolding ascends
below_top n top v vs s =
    let a = every_all _ s in
    omega (arith, ltb-true n v.number a.0, leb-true v.number top a.1.0)

top_once : (n top : ℕ) (v : Version) (vs : Chain) → every (leb n top ∷ ascends n top (v ∷ vs) ∷ []) ≡ ascends n top (v ∷ vs)
top_once n top v vs =
    same_test _ _ (λ s. (every_all (leb n top ∷ ascends n top (v ∷ vs) ∷ []) s).1.0)
    (λ s. all_every _ (le-leb n top (below_top n top v vs s), (s, tt)))

top_last : (n top : ℕ) (vs : Chain) (v : Version) → every (leb n top ∷ ascends n top (vs ++ v ∷ []) ∷ []) ≡ ascends n top (vs ++ v ∷ [])
top_last n top [] v = top_once n top v []
top_last n top (w ∷ vs) v = top_once n top w (vs ++ v ∷ [])

-- at its version at place j, with v after the run
pub ascend_next : (last top j to : ℕ) (vs : List Version) (v : Version) → j < to → to ≤ length vs
    → ascends last top (slice j to vs ++ v ∷ []) ≡ (ltb last (version_at j vs).number && ascends (version_at j vs).number top (slice (j + 1) to vs ++ v ∷ []))
unfolding ascends every
ascend_next last top j to vs v h fits =
    let n = (version_at j vs).number in
    rw (slice-cons j to vs no_version h fits, add-one j) (ap (λ (b : Bool). ltb last n && b) (top_last n top (slice (suc j) to vs) v))

-- at its last
pub ascend_last : (last top j to : ℕ) (vs : List Version) (v : Version) {n : ℕ} → j ≡ to → n ≡ v.number
    → ascends last top (slice j to vs ++ v ∷ []) ≡ every (ltb last n ∷ leb n top ∷ true ∷ [])
unfolding ascends
ascend_last last top j to vs v e f = rw (e, f, slice_empty to vs)

-- a run of what stands after the first n
pub slice_after : (n a b : ℕ) (vs : List Version) → a ≤ b → slice (n + a) (n + b) vs ≡ slice a b (drop n vs)
slice_after n a b vs h =
    let e : n + a + (b - a) ≡ n + b = omega arith in
    let f : a + (b - a) ≡ b = omega arith in
    ap (λ (x : ℕ). slice (n + a) x vs) (sym e) ∙ drop_take (n + a) (b - a) vs ∙ ap (take (b - a)) (sym (drop-drop a n vs)) ∙ sym (ap (λ (x : ℕ). slice a x (drop n vs)) (sym f) ∙ drop_take a (b - a) (drop n vs))

-- ---- rows

end_next : (b i : ℕ) (r : Row) (rs : List Row) → end_before b (suc i) (r ∷ rs) ≡ end_before r.end i rs
unfolding end_before
end_next b zero r rs = refl
end_next b (suc i) r rs = refl

-- the test of a row, with one row less before it
test_next : (b top : ℕ) (r : Row) (rs : List Row) (n : Version) (ns os : List Version) (i : ℕ) → row_test b top (r ∷ rs) (n ∷ ns) os (suc i) ≡ row_test r.end top rs ns os i
unfolding row_test end_before
test_next b top r rs n ns os zero = refl
test_next b top r rs n ns os (suc i) = refl

ends_last : (b n : ℕ) (rs : List Row) → Ends b n rs → end_before b (length rs) rs ≡ n
unfolding end_before
ends_last b n [] a = a
ends_last b n (r ∷ rs) a = end_next b (length rs) r rs ∙ ends_last r.end n rs a.1

rows_yes : (last : Bytes) (b top : ℕ) (rs : List Row) (ns os : List Version) → Each ShortRow rs → Each SoundVersion ns → Each SoundVersion os → length rs ≤ length ns
    → all_follow last (row_keys rs) ≡ true → ((i : ℕ) → i < length rs → row_test b top rs ns os i ≡ true) → end_before b (length rs) rs ≡ length os
    → Ends b (length os) rs × (sound_entries last top (entries_of b rs ns (drop b os)) ≡ true)
unfolding all_follow row_test end_before entries_of sound_entries
rows_yes last b top [] ns os g u v w o f e = (e, refl)
rows_yes last b top (r ∷ rs) [] os g u v w o f e = absurd (not-suc-le-zero w)
rows_yes last b top (r ∷ rs) (x ∷ ns) os g u v w o f e =
    let n : ℕ = r.end in
    let a = every_all _ (f 0 (omega arith)) in
    let first = and_left (follows last r.key) (all_follow r.key (row_keys rs)) o in
    let after = and_left (is_less (order last r.key)) (are_printable r.key) first in
    let printable = and_right (is_less (order last r.key)) (are_printable r.key) first in
    let p : b ≤ n = leb-true b n a.0 in
    let q : n ≤ length os = leb-true n (length os) a.1.0 in
    let j : b + (n - b) ≡ n = omega arith in
    let d : drop (n - b) (drop b os) ≡ drop n os = drop-drop (n - b) b os ∙ ap (λ (i : ℕ). drop i os) j in
    let c : slice b n os ≡ take (n - b) (drop b os) = ap (λ (i : ℕ). slice b i os) (sym j) ∙ drop_take b (n - b) os in
    let i = rows_yes r.key n top rs ns os g.1 u.1 v (le_of_suc-le-suc w) (and_right (follows last r.key) (all_follow r.key (row_keys rs)) o) (λ i h. sym (test_next b top r rs x ns os i) ∙ f (suc i) (omega arith)) (sym (end_next b (length rs) r rs) ∙ e) in
    let t : Chain = take (n - b) (drop b os) ++ x ∷ [] in
    let l : 1 ≤ length t = rw (length-append (take (n - b) (drop b os)) (x ∷ [])) (omega arith) in
    let s : Each SoundVersion t = each_append SoundVersion (take (n - b) (drop b os)) (x ∷ []) (each_take SoundVersion (n - b) (drop b os) (each_drop SoundVersion b os v)) (u.0, tt) in
    let k : sound_chain 0 top t ≡ true = chain_same 0 top t s ∙ ap (λ (z : Chain). ascends 0 top (z ++ x ∷ [])) (sym c) ∙ a.1.1.0 in (
      (p, i.0),
      all_every _ (
        after,
        (
          good_key r.key (less_some last r.key after) g.0 printable,
          (le-leb 1 (length t) l, (k, (rw d i.1, tt))),
        ),
      ),
    )

keys_no : (last : Bytes) (b top : ℕ) (es : List Entry) → sound_entries last top es ≡ true → all_follow last (row_keys (rows_of b es)) ≡ true
unfolding all_follow rows_of sound_entries
keys_no last b top [] s = refl
keys_no last b top (e ∷ es) s =
    let a = every_all _ s in
    and_intro (and_intro a.0 (key_parts e.key a.1.0).2) (keys_no e.key (b + (length e.chain - 1)) top es a.1.1.1.1.0)

rows_no : (last : Bytes) (b top : ℕ) (es : List Entry) (pre x : List Version) → length pre ≡ b → sound_entries last top es ≡ true
    → (i : ℕ) → i < length es → row_test b top (rows_of b es) (newests_of es ++ x) (pre ++ olders_of es) i ≡ true
unfolding row_test end_before rows_of newests_of olders_of sound_entries
rows_no last b top [] pre x p s i h = absurd (not-suc-le-zero h)
rows_no last b top (e ∷ es) pre x p s zero h =
    let a = every_all _ s in
    let c : Chain = e.chain in
    let z : List Version = olders_of es in
    let n : ℕ = b + (length c - 1) in
    let o = leb-true 1 (length c) a.1.1.0 in
    let lo = length_older c in
    let l : n ≤ length (pre ++ (older c ++ z)) = simp length-append (omega arith) in
    let q : slice b n (pre ++ (older c ++ z)) ≡ older c = drop_take b (length c - 1) (pre ++ (older c ++ z)) ∙ rw (drop_at pre (older c ++ z) b p) (take_at (older c) z (length c - 1) lo) in
    let y : version_at 0 ((latest c ++ newests_of es) ++ x) ∷ [] ≡ latest c = rw (append_assoc (latest c) (newests_of es) x) (one_first (latest c) (newests_of es ++ x) (length_latest c o)) in
    all_every _ (le-leb b n (omega arith), (le-leb n (length (pre ++ (older c ++ z))) l, (rw (q, y, older_latest c) (chain_ascends 0 top c a.1.1.1.0), tt)))
rows_no last b top (e ∷ es) pre x p s (suc i) h =
    let c : Chain = e.chain in
    let n : ℕ = b + (length c - 1) in
    let r : Row = record { key = e.key; end = n } in
    let o = leb-true 1 (length c) (every_all _ s).1.1.0 in
    let y : latest c ≡ version_at 0 (latest c ++ []) ∷ [] = sym (one_first (latest c) [] (length_latest c o)) in
    let v : Version = version_at 0 (latest c ++ []) in
    let u : (latest c ++ newests_of es) ++ x ≡ v ∷ (newests_of es ++ x) = append_assoc (latest c) (newests_of es) x ∙ ap (λ (l : Chain). l ++ (newests_of es ++ x)) y in
    let k = rows_no e.key n top es (pre ++ older c) x (rw length-append (omega (arith, length_older c))) (every_all _ s).1.1.1.1.0 i (le_of_suc-le-suc h) in
    ap (λ (l : Chain). row_test b top (r ∷ rows_of n es) l (pre ++ (older c ++ olders_of es)) (suc i)) u
    ∙ test_next b top r (rows_of n es) v (newests_of es ++ x) (pre ++ (older c ++ olders_of es)) i
    ∙ subst (λ (l : List Version). row_test n top (rows_of n es) (newests_of es ++ x) l i ≡ true) (append_assoc pre (older c) (olders_of es)) k

-- ---- the whole memory

module _ (m : Bytes) where
  sound_shape : Sound m → every (shape_tests m) ≡ true
  unfolding hall_in hall_for sound_hall
  sound_shape s =
      let a = every_all _ s.hall in
      shaped_tests m (sound_shaped m s) a.0 (leb-true (counter_in m) last_number a.1.0)
      (leb-true (floor_in m) (counter_in m) a.1.1.1.1.1.0)

  order_sound : are_bytes m ≡ true → every (shape_tests m) ≡ true → every (order_tests m) ≡ true → Sound m
  unfolding keys_in versions_in hall_in hall_for tables_for sound_hall
  order_sound all e o =
      let s : Shaped m = shape_shaped m all e in
      let x = every_all _ o in
      let rs : List Row = keys_in m in
      let vs : List Version = versions_in m in
      let g : Each ShortRow rs = each_from KeyRow row_from ShortRow short_row (rows m head_size row_width (key_count_in m)) (key_rows_are m all e) in
      let v : Each SoundVersion vs = each_from VersionRow version_from SoundVersion sound_version (rows m (version_base (key_rooms_in m)) version_width (version_count_in m)) (version_rows_are m all e) in
      let os : List Version = olders_in m in
      let w = leb-true (length rs) (length vs) x.0 in
      let p = rows_yes [] 0 (counter_in m) rs vs os g v (each_drop SoundVersion (length rs) vs v) w x.1.0 (λ i h. all_at (row_of m) (length rs) i x.1.1.0 h) (eqb-true _ _ x.1.1.1.0) in
      let l : length os ≡ length vs - length rs = length-drop (length rs) vs in
      let y : Ranged (tables_in m) = (w, rw l at p.0) in
      let h = every_all _ (every_all _ e).1.0 in
      let es : List Entry = entries_of 0 rs vs os in
      let t = tables_get (tables_in m) y in
      let k : length es ≡ length rs = sym (rows_total 0 es) ∙ ap (λ (u : Tables). length u.keys) t in
      let n : version_count es ≡ length vs = sym (versions_total es) ∙ ap (λ (u : Tables). length u.versions) t in
      shaped_sound m s y (all_every _ (h.0, (h.1.0, (p.1, (le-leb (length es) _ (rw k s.good.keys_fit), (le-leb (version_count es) _ (rw n s.good.versions_fit), (h.1.1.1.1.1.1.0, tt)))))))

  sound_order : Sound m → every (order_tests m) ≡ true
  unfolding sound_hall
  sound_order s =
      let es : List Entry = (hall_in m).entries in
      let a : sound_entries [] (counter_in m) es ≡ true = rw hall_counter at (every_all _ s.hall).1.1.0 in
      let r = sound_ranged m s in
      let l : length (olders_in m) ≡ length (versions_in m) - length (keys_in m) = length-drop (length (keys_in m)) (versions_in m) in
      let t : (i : ℕ) → i < length (keys_in m) → row_of m i ≡ true =
      λ i h. rw (olders_are m s, keys_are m s, versions_are m s) (rows_no [] 0 (counter_in m) es [] (olders_of es) refl a i (omega (arith, keys_counted m s))) in
      let k : all_follow [] (row_keys (keys_in m)) ≡ true = rw (keys_are m s) (keys_no [] 0 (counter_in m) es a) in
      all_every _ (le-leb _ _ r.0, (k, (all_of (row_of m) (length (keys_in m)) t, (eq-eqb _ _ (ends_last 0 (length (versions_in m) - length (keys_in m)) (keys_in m) r.1 ∙ sym l), tt))))

  pub decides : are_bytes m ≡ true → every (shape_tests m) ≡ true → every (order_tests m) ≡ is_sound m
  decides all e = same_test (every (order_tests m)) (is_sound m) (λ o. tests m (order_sound all e o)) (λ q. sound_order (tested m q))

  pub not_shaped : every (shape_tests m) ≡ false → false ≡ is_sound m
  not_shaped e = fails_too (λ q. sound_shape (tested m q)) e

-- ---- what stands past the needed length does not matter

pub sound_past : (m x : Bytes) → Sound m
    → Sound (take (needed (hall_in m).key_rooms (hall_in m).version_rooms) m ++ x) × (hall_in (take (needed (hall_in m).key_rooms (hall_in m).version_rooms) m ++ x) ≡ hall_in m)
unfolding put_hall put_tables tables_for
sound_past m x s =
    let h : Hall = hall_in m in
    let t : Bytes = table_bytes (tables_for h) in
    let n : ℕ = needed h.key_rooms h.version_rooms in
    let l : length t ≡ n = length_tables (tables_for h) (good_hall h s.hall) in
    let e : t ≡ take n m = sym (take_at t (drop n m) n l) ∙ ap (take n) (sym s.same) in
    let k : n ≤ length (t ++ x) = rw length-append (omega arith) in
    let p : put_hall (t ++ x) h ≡ take n m ++ x = rw (drop_at t x n l) (ap (λ (y : Bytes). y ++ x) e) in
    subst (λ (y : Bytes). Sound y × (hall_in y ≡ h)) p (put_sound (t ++ x) h s.hall k, hall_read (t ++ x) h s.hall)

-- ---- what code has read of a row

pub olders_left : (m : Bytes) {n total : ℕ} → n ≡ length (keys_in m) → total ≡ length (versions_in m)
    → total - n ≡ length (olders_in m)
olders_left m p t = rw (p, t) (sym (length-drop (length (keys_in m)) (versions_in m)))

pub row_chain : (m : Bytes) (i : ℕ) {n from to top : ℕ} {b : Bool} → n ≡ length (keys_in m)
    → from ≡ end_before 0 i (keys_in m) → to ≡ (row_at i (keys_in m)).end → from ≤ to → top ≡ counter_in m
    → b ≡ ascends 0 top (slice (n + from) (n + to) (versions_in m) ++ version_at i (versions_in m) ∷ [])
    → b ≡ get_or (row_tests 0 (counter_in m) (keys_in m) (versions_in m) (olders_in m) i) 2 true
row_chain m i {n} {from} {to} p q r h k e = e ∙ rw (slice_after n from to (versions_in m) h, p, q, r, k)
