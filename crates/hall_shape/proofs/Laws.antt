-- The tests of the bytes' shape, and memory that holds tables: each says the other.
-- Assumes nothing.
use mathlib.Core.Path.{◌≡◌, refl, sym, ap, ◌∙◌}
use mathlib.Core.Bool.{Bool, true}
use mathlib.Core.List.{List, [], ◌∷◌, ◌++◌, map, append_assoc}
use Prim.Native.Nat.{ℕ, zero, suc, ◌+◌, ◌-◌, ◌*◌, ◌≤◌, ◌<◌}
use native.Mathlib.Nat.{add-zero, mul-le-mul_left}
use native.Mathlib.Omega.{arith}
use borrow.Author.Tests.{leb-true, le-leb}
use lib.ListN.{length, take, drop, length-append, length-replicate, take-append-drop}
use lib.Seq.{take-add}
use Rattle.model.specs.Sizes.{number_width, count_width, last_number}
use Rattle.model.specs.Bytes.{Bytes, are_bytes, part}
use Rattle.model.specs.Sound.{every, sizes_fit}
use Rattle.model.proofs.Cases.{every_all, all_every}
use Rattle.memory.specs.Spans.{zeros, padded}
use Rattle.memory.specs.Rows.{rows, joined, Each}
use Rattle.memory.proofs.Laws.Numbers.{length_bytes, are_bytes_part}
use Rattle.memory.proofs.Laws.Parts.{part_add, length_part, num_low, part_part, part_mid, bytes_part}
use Rattle.memory.proofs.Laws.Spans.{all_zero_zeros, zeros_of}
use Rattle.memory.proofs.Laws.Rows.{joined_rows}
use Rattle.memory.proofs.Laws.Tests.{all_at, all_of}
use Rattle.memory.proofs.Laws.Each.{each_get, length_table}
use Rattle.cells.specs.Cells.{key_width, is_key_cell, payload_width, is_payload_cell}
use Rattle.hall.specs.Layout.{head_size, row_width, version_width, key_rooms_place, version_rooms_place, counter_place, key_count_place, version_count_place, floor_place, desk_count_place, spare_place, version_base, needed, Tables, row_bytes, version_bytes, head_bytes, table_bytes, row_from, version_from, key_rooms_in, version_rooms_in, counter_in, key_count_in, version_count_in, floor_in, desk_count_in, keys_in, versions_in, tables_in, put_tables}
use Rattle.hall.specs.Layout.{head_numbers}
use Rattle.hall.specs.Tables.{GoodRow, GoodVersion, Shaped}
use Rattle.hall.proofs.Laws.Tables.{length_row, row_put, good_row, length_version, version_put, good_version, length_head, key_region, version_region, needed_by, length_front}
use Rattle.hall.proofs.Laws.Puts.{in_regions}
use Rattle.hall.proofs.Laws.Halls.{fit_sizes}
use Rattle.hall.proofs.Laws.Rows.{key_total, version_total, key_is_cell, payload_is_cell}
use Rattle.hall_shape.specs.Tests.{zero_between, head_tests, Fits, key_test, payload_test, rest_tests, shape_tests}

-- ---- bytes with zeros after them, up to n

-- k bytes that stand at `at`, and zeros
padded_part : (m : Bytes) (at k n : ℕ) {x : Bytes} → k ≤ n → at + n ≤ length m → x ≡ part m at k → zero_between m (at + k) (at + n) ≡ true → padded n x ≡ part m at n
unfolding padded
padded_part m at k n h l p z =
    let e : n ≡ k + (n - k) = omega arith in
    let d : at + n - (at + k) ≡ n - k = omega arith in
    let q : part m (at + k) (n - k) ≡ zeros (n - k) = zeros_of (part m (at + k) (n - k)) (n - k) (length_part m (at + k) (n - k) (omega arith)) (rw d at z) in
    rw (p, length_part m at k (omega arith), ← q) (sym (ap (part m at) e ∙ part_add m at k (n - k)))

rest_zero : (p b q : Bytes) (at k n : ℕ) {m : Bytes} → m ≡ p ++ (padded n b ++ q) → length p ≡ at → length b ≡ k → zero_between m (at + k) (at + n) ≡ true
unfolding padded
rest_zero p b q at k n f e g =
    let d : at + n - (at + k) ≡ n - length b = omega arith in
    let c : p ++ ((b ++ zeros (n - length b)) ++ q) ≡ (p ++ b) ++ (zeros (n - length b) ++ q) = simp append_assoc in
    let l : length (p ++ b) ≡ at + k = rw length-append (omega arith) in
    rw (d, f, c, part_mid (p ++ b) (zeros (n - length b)) q (at + k) (n - length b) l (length-replicate {A = ℕ} (n - length b) 0)) (all_zero_zeros (n - length b))

-- ---- rows whose cells pass a test

-- b is w bytes, and the n of them from k on pass
pub record Passes (test : Bytes → Bool) (w k n : ℕ) (b : Bytes) : Type 0 where
  pub size : length b ≡ w
  pub all : are_bytes b ≡ true
  pub cell : test (part b k n) ≡ true

abbrev pub KeyRow : Bytes → Type 0
KeyRow = Passes is_key_cell row_width 0 key_width

abbrev pub VersionRow : Bytes → Type 0
VersionRow = Passes is_payload_cell version_width number_width payload_width

module _ (test : Bytes → Bool) (m : Bytes) (all : are_bytes m ≡ true) (w k n : ℕ) (h : k + n ≤ w) where
  each_passes : (at c : ℕ) → at + w * c ≤ length m → ((i : ℕ) → i < c → test (part m (at + w * i + k) n) ≡ true) → Each (Passes test w k n) (rows m at w c)
  unfolding rows
  each_passes at zero l f = tt
  each_passes at (suc c) l f =
      let e : at + w * 0 + k ≡ at + k = omega arith in
      let g : (i : ℕ) → at + w * suc i + k ≡ at + w + w * i + k = λ i. omega arith in (
        record { size = length_part m at w (omega arith); all = are_bytes_part m at w all; cell = rw (part_part m at w k n h, ← e) (f 0 (omega arith)) },
        each_passes (at + w) c (omega arith) (λ i j. rw (← g i) (f (suc i) (omega arith))),
      )

pub each_from : {A : Type 0} (R : Bytes → Type 0) (from : Bytes → A) (P : A → Type 0) → ((b : Bytes) → R b → P (from b)) → (bs : List Bytes) → Each R bs → Each P (map from bs)
each_from R from P f [] a = tt
each_from R from P f (b ∷ bs) a = (f b a.0, each_from R from P f bs a.1)

-- a table of such rows, with zeros after them up to n rows
table_put : {A : Type 0} (R : Bytes → Type 0) (from : Bytes → A) (code : A → Bytes) → ((b : Bytes) → R b → code (from b) ≡ b) → (m : Bytes) (at w k n : ℕ)
    → Each R (rows m at w k) → k ≤ n → at + w * n ≤ length m → zero_between m (at + w * k) (at + w * n) ≡ true
    → padded (w * n) (joined (map code (map from (rows m at w k)))) ≡ part m at (w * n)
table_put R from code f m at w k n a h l z =
    padded_part m at (w * k) (w * n) (mul-le-mul_left w h) l (ap joined (each_get R from code f (rows m at w k) a) ∙ joined_rows m at w k) z

abbrev numbers_in : Bytes → Bytes
numbers_in m =
    head_numbers (key_rooms_in m) (version_rooms_in m) (counter_in m) (length (keys_in m)) (length (versions_in m)) (floor_in m)
    (desk_count_in m)

-- ---- from the tests

pub head_fits : (m : Bytes) → every (head_tests m) ≡ true → Fits m
head_fits m e =
    let a = every_all _ e in
    let z = fit_sizes _ _ (desk_count_in m) a.0 in
    record {
      few_keys = z.keys.1;
      few_versions = z.versions.1;
      few_desks = z.desks.1;
      keys_fit = leb-true _ _ a.1.1.0;
      versions_fit = leb-true _ _ a.1.1.1.0;
      long = leb-true _ _ a.1.1.1.1.0;
    }

module _ (m : Bytes) (all : are_bytes m ≡ true) (e : every (shape_tests m) ≡ true) where
  abbrev ks : ℕ
  ks = key_rooms_in m

  abbrev vs : ℕ
  vs = version_rooms_in m

  abbrev base : ℕ
  base = version_base (key_rooms_in m)

  head_holds : every (head_tests m) ≡ true
  head_holds = (every_all _ e).1.0

  fits : Fits m
  fits = head_fits m head_holds

  pub key_rows_are : Each KeyRow (rows m head_size row_width (key_count_in m))
  unfolding key_test
  key_rows_are =
      each_passes is_key_cell m all row_width 0 key_width (omega arith) head_size (key_count_in m) (omega (arith, fits.long, fits.keys_fit))
      (λ i h. rw add-zero (all_at (key_test m) (key_count_in m) i (every_all _ e).1.1.0 h))

  pub version_rows_are : Each VersionRow (rows m (version_base (key_rooms_in m)) version_width (version_count_in m))
  unfolding payload_test
  version_rows_are =
      each_passes is_payload_cell m all version_width number_width payload_width (omega arith) base (version_count_in m) (omega (arith, fits.long, fits.versions_fit))
      (λ j h. all_at (payload_test m) (version_count_in m) j (every_all _ e).1.1.1.0 h)

  head_same : head_bytes (tables_in m) ≡ part m 0 head_size
  unfolding head_bytes
  head_same =
      let l = fits.long in
      let p : numbers_in m ≡ part m 0 spare_place =
      rw (
        key_total m,
        version_total m,
        bytes_part m key_rooms_place count_width all (omega arith),
        bytes_part m version_rooms_place count_width all (omega arith),
        bytes_part m counter_place number_width all (omega arith),
        bytes_part m key_count_place count_width all (omega arith),
        bytes_part m version_count_place count_width all (omega arith),
        bytes_part m floor_place number_width all (omega arith),
        bytes_part m desk_count_place count_width all (omega arith),
        ← part_add m floor_place number_width count_width,
        ← part_add m version_count_place count_width (number_width + count_width),
        ← part_add m key_count_place count_width (count_width + number_width + count_width),
        ← part_add m counter_place number_width (count_width + count_width + number_width + count_width),
        ← part_add m version_rooms_place count_width (number_width + count_width + count_width + number_width + count_width),
        ← part_add m key_rooms_place count_width (count_width + number_width + count_width + count_width + number_width + count_width),
      ) in
      padded_part m 0 spare_place head_size (omega arith) (omega arith) p (every_all _ head_holds).1.1.1.1.1.0

  keys_same : key_region (tables_in m) ≡ part m head_size (row_width * key_rooms_in m)
  unfolding keys_in
  keys_same =
      table_put KeyRow row_from row_bytes (λ b r. row_put b r.all r.size r.cell) m head_size row_width (key_count_in m) ks key_rows_are fits.keys_fit (omega (arith, fits.long))
      (every_all _ (every_all _ e).1.1.1.1.0).0

  versions_same : version_region (tables_in m) ≡ part m (version_base (key_rooms_in m)) (version_width * version_rooms_in m)
  unfolding versions_in
  versions_same =
      table_put VersionRow version_from version_bytes (λ b r. version_put b r.all r.size r.cell) m base version_width (version_count_in m) vs version_rows_are fits.versions_fit fits.long
      (every_all _ (every_all _ e).1.1.1.1.0).1.0

  bytes_same : m ≡ put_tables m (tables_in m)
  unfolding put_tables table_bytes part
  bytes_same =
      let n : ℕ = needed ks vs in
      let c : take n m ≡ (take head_size m ++ take (row_width * ks) (drop head_size m)) ++ take (version_width * vs) (drop base m) = rw (take-add base (version_width * vs) m, take-add head_size (row_width * ks) m) in
      rw (head_same, keys_same, versions_same) (sym (take-append-drop n m) ∙ ap (λ (x : Bytes). x ++ drop n m) (c ∙ append_assoc (take head_size m) _ _))

  pub shape_shaped : Shaped m
  unfolding keys_in versions_in
  shape_shaped =
      record {
        good =
            record {
              few_keys = fits.few_keys;
              few_versions = fits.few_versions;
              few_desks = fits.few_desks;
              low = num_low m counter_place number_width all (omega (arith, fits.long));
              floor_low = num_low m floor_place number_width all (omega (arith, fits.long));
              keys_fit = rw (key_total m) fits.keys_fit;
              versions_fit = rw (version_total m) fits.versions_fit;
              keys = each_from KeyRow row_from GoodRow (λ b r. good_row b r.all r.size r.cell) (rows m head_size row_width (key_count_in m)) key_rows_are;
              versions = each_from VersionRow version_from GoodVersion (λ b r. good_version b r.all r.size r.cell) (rows m base version_width (version_count_in m)) version_rows_are;
            };
        long = fits.long;
        same = bytes_same;
      }

-- ---- to the tests

module _ (m : Bytes) (s : Shaped m) where
  abbrev t : Tables
  t = tables_in m

  abbrev c : Bytes
  c = drop (needed_by (tables_in m)) m

  spare_zero : zero_between m spare_place head_size ≡ true
  unfolding head_bytes
  spare_zero =
      rest_zero [] (numbers_in m) (key_region t ++ (version_region t ++ c)) 0 spare_place head_size (in_regions m s) refl
      (simp (length-append, length_bytes))

  keys_zero : zero_between m (head_size + row_width * key_count_in m) (version_base (key_rooms_in m)) ≡ true
  keys_zero =
      rest_zero (head_bytes t) (joined (map row_bytes (keys_in m))) (version_region t ++ c) head_size (row_width * key_count_in m) (row_width * key_rooms_in m) (in_regions m s) (length_head t)
      (length_table GoodRow row_width row_bytes length_row (keys_in m) s.good.keys ∙ ap (λ (k : ℕ). row_width * k) (key_total m))

  versions_zero : zero_between m (version_base (key_rooms_in m) + version_width * version_count_in m) (needed (key_rooms_in m) (version_rooms_in m)) ≡ true
  versions_zero =
      rest_zero (head_bytes t ++ key_region t) (joined (map version_bytes (versions_in m))) c (version_base (key_rooms_in m)) (version_width * version_count_in m) (version_width * version_rooms_in m)
      (in_regions m s ∙ sym (append_assoc (head_bytes t) (key_region t) (version_region t ++ c))) (length_front t s.good)
      (length_table GoodVersion version_width version_bytes length_version (versions_in m) s.good.versions ∙ ap (λ (k : ℕ). version_width * k) (version_total m))

  pub shaped_tests : sizes_fit (key_rooms_in m) (version_rooms_in m) (desk_count_in m) ≡ true → counter_in m ≤ last_number → floor_in m ≤ counter_in m → every (shape_tests m) ≡ true
  unfolding key_test payload_test
  shaped_tests z n f =
      let kt = key_total m in
      let vt = version_total m in
      let ks : ℕ = key_rooms_in m in
      let vs : ℕ = version_rooms_in m in
      let keys = le-leb (key_count_in m) ks (omega (arith, s.good.keys_fit)) in
      let versions = le-leb (version_count_in m) vs (omega (arith, s.good.versions_fit)) in
      let long = le-leb (needed ks vs) (length m) s.long in
      let floor = le-leb (floor_in m) (counter_in m) f in
      let head : every (head_tests m) ≡ true = all_every _
      (z, (le-leb (counter_in m) last_number n, (keys, (versions, (long, (spare_zero, (floor, tt))))))) in
      let cells = all_of (key_test m) (key_count_in m) (λ i l. key_is_cell m s i (omega arith)) in
      let payloads = all_of (payload_test m) (version_count_in m) (λ j l. payload_is_cell m s j (omega arith)) in
      let rests : every (rest_tests m) ≡ true = all_every _ (keys_zero, (versions_zero, tt)) in
      all_every _ (le-leb head_size (length m) (omega (arith, s.long)), (head, (cells, (payloads, (rests, tt)))))
