-- Runs of rows in a table: stored, moved up, and added where it holds zeros.
-- Assumes nothing.
use mathlib.Core.Path.{◌≡◌, refl, sym, ap, ◌∙◌}
use mathlib.Core.Bool.{true}
use mathlib.Core.List.{List, [], ◌∷◌, ◌++◌, map, append_assoc}
use Prim.Native.Nat.{ℕ, zero, suc, ◌+◌, ◌-◌, ◌*◌, ◌^◌, ◌≤◌, ◌<◌}
use native.Mathlib.Nat.{mul-add}
use native.Mathlib.Omega.{arith}
use lib.ListN.{length, take, drop, set, replicate, length-replicate, length-append, length-set, length-take, length-drop}
use lib.Seq.{sets, length-sets, take_at, drop_at}
use Rattle.model.specs.Sizes.{number_width, count_width}
use Rattle.model.specs.Bytes.{Bytes, are_bytes, part, bytes}
use Rattle.model.specs.State.{Version}
use Rattle.model.specs.Dump.{dump_payload}
use Rattle.memory.specs.Spans.{zeros, padded}
use Rattle.memory.specs.Rows.{rows, joined, Each}
use Rattle.memory.proofs.Laws.Numbers.{length_bytes}
use Rattle.memory.proofs.Laws.Spans.{zeros_add, length_zeros}
use Rattle.memory.proofs.Laws.Parts.{sets_append, sets_self}
use Rattle.memory.proofs.Laws.Rows.{mul_cut, map_take, joined_append, joined_rows, length_rows, rows_add}
use Rattle.memory.proofs.Laws.Each.{each_set, each_append, each_take, each_drop, length_table, region_set}
use Rattle.cells.specs.Cells.{key_width, key_bytes, payload_bytes, payload_from}
use Rattle.cells.proofs.Laws.Cells.{length_key, payload_short, payload_put}
use Rattle.hall.specs.Layout.{head_size, row_width, version_width, key_count_place, version_count_place, version_base, version_place, Row, Tables, row_bytes, version_bytes, head_bytes, key_rooms_in, version_rooms_in, keys_in, versions_in, tables_in, put_tables}
use Rattle.hall.specs.Tables.{GoodRow, GoodVersion, Shaped, with_keys, with_versions, no_row, no_version}
use Rattle.hall.proofs.Laws.Tables.{length_row, length_version, length_head, length_front, head_keys, head_versions, key_region, version_region, needed_by, regions}
use Rattle.hall.proofs.Laws.Puts.{good_keys, good_versions, in_regions, in_front, key_rows_lem, version_rows_lem, put_row, put_version}
use Rattle.hall_rows.specs.Held.{Holds}
use Rattle.hall_rows.specs.Runs.{shifted, Cell, version_by}

map_drop : {A B : Type 0} (f : A → B) (n : ℕ) (xs : List A) → drop n (map f xs) ≡ map f (drop n xs)
map_drop f zero xs = refl
map_drop f (suc n) [] = refl
map_drop f (suc n) (x ∷ xs) = map_drop f n xs

pub map_append : {A B : Type 0} (f : A → B) (xs ys : List A) → map f (xs ++ ys) ≡ map f xs ++ map f ys
map_append f [] ys = refl
map_append f (x ∷ xs) ys = rw (map_append f xs ys)

pub each_sets : {A : Type 0} (P : A → Type 0) (xs : List A) (i : ℕ) (ys : List A) → Each P xs → Each P ys → Each P (sets xs i ys)
each_sets P xs i [] a b = a
each_sets P xs i (y ∷ ys) a b = each_sets P (set xs i y) (suc i) ys (each_set P xs i y a b.0) b.1

-- ---- a run of the rows that stand in a memory

module _ {A : Type 0} (code : A → Bytes) (m : Bytes) (at w : ℕ) (xs : List A) (e : rows m at w (length xs) ≡ map code xs) where
  pub run_bytes : (from k : ℕ) → from + k ≤ length xs → joined (map code (take k (drop from xs))) ≡ part m (at + w * from) (w * k)
  run_bytes from k h =
      let r : ℕ = length xs - (from + k) in
      let n : length xs ≡ from + (k + r) = omega arith in
      let c : rows m at w (length xs) ≡ rows m at w from ++ (rows m (at + w * from) w k ++ rows m (at + w * from + w * k) w r) =
      ap (rows m at w) n ∙ rows_add m at w from (k + r) ∙ rw (rows_add m (at + w * from) w k r) in
      let d : drop from (map code xs) ≡ rows m (at + w * from) w k ++ rows m (at + w * from + w * k) w r =
      ap (drop from) (sym e ∙ c) ∙ drop_at (rows m at w from) _ from (length_rows m at w from) in
      let t : take k (drop from (map code xs)) ≡ rows m (at + w * from) w k = ap (take k) d ∙ take_at (rows m (at + w * from) w k) _ k (length_rows m (at + w * from) w k) in
      ap joined (sym (map_take code k (drop from xs)) ∙ ap (take k) (sym (map_drop code from xs)) ∙ t) ∙ joined_rows m (at + w * from) w k

  pub run_moved : (from to by : ℕ) {m₁ : Bytes} → from ≤ to → to ≤ length xs
      → m₁ ≡ sets m (at + w * from + w * by) (part m (at + w * from) (at + w * to - (at + w * from)))
      → m₁ ≡ sets m (at + w * (from + by)) (joined (map code (take (to - from) (drop from xs))))
  run_moved from to by h l p =
      let k = mul_cut w from to h in
      let g : at + w * to - (at + w * from) ≡ w * (to - from) = omega arith in
      let f : at + w * from + w * by ≡ at + w * (from + by) = rw (mul-add w from by) (omega arith) in
      p ∙ rw (g, f, run_bytes from (to - from) (omega arith))

-- ---- a run of rows stored over others, and rows of zeros

module _ {A : Type 0} (code : A → Bytes) (w : ℕ) (z : A) (e : code z ≡ zeros w) where
  joined_zeros : (n : ℕ) → joined (map code (replicate n z)) ≡ zeros (w * n)
  unfolding joined
  joined_zeros zero =
      let k : w * 0 ≡ 0 = omega arith in
      rw k
  joined_zeros (suc n) =
      let k : w * suc n ≡ w + w * n = omega arith in
      rw (k, zeros_add w (w * n), e, joined_zeros n)

  region_grows : (xs : List A) (n rooms : ℕ) → length (joined (map code xs)) ≡ w * length xs → length xs + n ≤ rooms
      → padded (w * rooms) (joined (map code (xs ++ replicate n z))) ≡ padded (w * rooms) (joined (map code xs))
  unfolding padded
  region_grows xs n rooms l h =
      let r : ℕ = w * rooms - (w * length xs + w * n) in
      let g : w * (length xs + n) + w * (rooms - (length xs + n)) ≡ w * rooms = sym (mul_cut w (length xs + n) rooms h) in
      let d = mul-add w (length xs) n in
      let f : w * rooms - w * length xs ≡ w * n + r = omega arith in
      let j : joined (map code (xs ++ replicate n z)) ≡ joined (map code xs) ++ zeros (w * n) =
      ap joined (map_append code xs (replicate n z)) ∙ joined_append (map code xs) (map code (replicate n z)) ∙ rw (joined_zeros n) in
      rw (j, length-append (joined (map code xs)) (zeros (w * n)), l, length_zeros (w * n), f, zeros_add (w * n) r) (append_assoc (joined (map code xs)) (zeros (w * n)) (zeros r))

region_sets : {A : Type 0} (P : A → Type 0) (w : ℕ) (code : A → Bytes) (size : (x : A) → P x → length (code x) ≡ w) (p q : Bytes) (at n : ℕ) → length p ≡ at
    → (xs : List A) → Each P xs → (i : ℕ) (ys : List A) → Each P ys → i + length ys ≤ length xs
    → sets (p ++ (padded (w * n) (joined (map code xs)) ++ q)) (at + w * i) (joined (map code ys)) ≡ p ++ (padded (w * n) (joined (map code (sets xs i ys))) ++ q)
unfolding joined
region_sets P w code size p q at n e xs a i [] b h = refl
region_sets P w code size p q at n e xs a i (y ∷ ys) b h =
    let k : at + w * i + length (code y) ≡ at + w * suc i = rw (size y b.0) (omega arith) in
    let l : suc i + length ys ≤ length (set xs i y) = rw length-set (omega arith) in
    sets_append (p ++ (padded (w * n) (joined (map code xs)) ++ q)) (at + w * i) (code y) (joined (map code ys))
    ∙ rw (region_set P w code size xs a p q at n e i y b.0 (omega arith), k) (region_sets P w code size p q at n e (set xs i y) (each_set P xs i y a b.0) (suc i) ys b.1 l)

-- ---- in a memory that holds tables

pub no_row_lem : GoodRow no_row
no_row_lem = record { short = omega arith; low = omega arith }

pub no_version_lem : GoodVersion no_version
no_version_lem = record { low = omega arith; short = tt }

row_zeros : row_bytes no_row ≡ zeros row_width
unfolding row_bytes key_bytes padded bytes
row_zeros = refl

version_zeros : version_bytes no_version ≡ zeros version_width
unfolding version_bytes payload_bytes dump_payload padded bytes
version_zeros = refl

each_replicate : {A : Type 0} (P : A → Type 0) (n : ℕ) (x : A) → P x → Each P (replicate n x)
each_replicate P zero x a = tt
each_replicate P (suc n) x a = (a, each_replicate P n x a)

module _ (m : Bytes) (s : Shaped m) where
  abbrev t : Tables
  t = tables_in m

  abbrev c : Bytes
  c = drop (needed_by t) m

  abbrev rs : List Row
  rs = keys_in m

  abbrev vs : List Version
  vs = versions_in m

  abbrev base : ℕ
  base = version_base (key_rooms_in m)

  pub key_run_lem : (i : ℕ) (ks : List Row) {m₁ : Bytes} → Each GoodRow ks → i + length ks ≤ length (keys_in m)
      → m₁ ≡ sets m (head_size + row_width * i) (joined (map row_bytes ks)) → Holds m (sets (keys_in m) i ks) (versions_in m) m₁
  unfolding put_tables head_bytes
  key_run_lem i ks a h p =
      let l : length (sets rs i ks) ≡ length rs = length-sets rs i ks in
      record {
        put = p ∙ ap (λ (y : Bytes). sets y (head_size + row_width * i) (joined (map row_bytes ks))) (in_regions m s)
            ∙ region_sets GoodRow row_width row_bytes length_row (head_bytes t) (version_region t ++ c) head_size (key_rooms_in m) (length_head t) rs s.good.keys i ks a h
            ∙ rw (regions (with_keys (sets rs i ks) t) c, l);
        good = good_keys t (sets rs i ks) s.good (each_sets GoodRow rs i ks s.good.keys a) (rw l s.good.keys_fit);
      }

  pub version_run : (j : ℕ) (us : List Version) {m₁ : Bytes} → Each GoodVersion us → j + length us ≤ length (versions_in m)
      → m₁ ≡ sets m (version_base (key_rooms_in m) + version_width * j) (joined (map version_bytes us))
      → Holds m (keys_in m) (sets (versions_in m) j us) m₁
  unfolding put_tables head_bytes
  version_run j us a h p =
      let l : length (sets vs j us) ≡ length vs = length-sets vs j us in
      record {
        put = p ∙ ap (λ (y : Bytes). sets y (base + version_width * j) (joined (map version_bytes us))) (in_front m s)
            ∙ region_sets GoodVersion version_width version_bytes length_version (head_bytes t ++ key_region t) c base (version_rooms_in m) (length_front t s.good) vs s.good.versions j us a h
            ∙ rw (regions (with_versions (sets vs j us) t) c, l) (append_assoc (head_bytes t) (key_region t) _);
        good = good_versions t (sets vs j us) s.good (each_sets GoodVersion vs j us s.good.versions a) (rw l s.good.versions_fit);
      }

  module _ (from to by : ℕ) (h : from ≤ to) where
    pub keys_shifted : to + by ≤ length (keys_in m) → {m₁ : Bytes}
        → m₁ ≡ sets m (head_size + row_width * from + row_width * by) (part m (head_size + row_width * from) (head_size + row_width * to - (head_size + row_width * from)))
        → Holds m (shifted from to by (keys_in m)) (versions_in m) m₁
    keys_shifted l p =
        key_run_lem (from + by) (take (to - from) (drop from rs)) (each_take GoodRow (to - from) (drop from rs) (each_drop GoodRow from rs s.good.keys))
        (simp (length-take, length-drop) (omega arith)) (run_moved row_bytes m head_size row_width rs (key_rows_lem m s) from to by h (omega arith) p)

    pub versions_shifted : to + by ≤ length (versions_in m) → {m₁ : Bytes}
        → m₁ ≡ sets m (version_place (key_rooms_in m) from + version_width * by)
        (part m (version_place (key_rooms_in m) from) (version_place (key_rooms_in m) to - version_place (key_rooms_in m) from))
        → Holds m (keys_in m) (shifted from to by (versions_in m)) m₁
    versions_shifted l p =
        version_run (from + by) (take (to - from) (drop from vs)) (each_take GoodVersion (to - from) (drop from vs) (each_drop GoodVersion from vs s.good.versions))
        (simp (length-take, length-drop) (omega arith)) (run_moved version_bytes m base version_width vs (version_rows_lem m s) from to by h (omega arith) p)

    -- by no rows
    module _ (e : by ≡ 0) where
      stays : (at w : ℕ) → at + w * to ≤ length m → m ≡ sets m (at + w * from + w * by) (part m (at + w * from) (at + w * to - (at + w * from)))
      stays at w l =
          let z : at + w * from + w * by ≡ at + w * from = rw e (omega arith) in
          let k = mul_cut w from to h in
          rw z (sym (sets_self m (at + w * from) (at + w * to - (at + w * from)) (omega arith)))

      pub keys_stay : to + by ≤ length (keys_in m) → Holds m (shifted from to by (keys_in m)) (versions_in m) m
      keys_stay l = keys_shifted l (stays head_size row_width (omega (arith, s.long, s.good.keys_fit)))

      pub versions_stay : to + by ≤ length (versions_in m) → Holds m (keys_in m) (shifted from to by (versions_in m)) m
      versions_stay l = versions_shifted l (stays base version_width (omega (arith, s.long, s.good.versions_fit)))

  module _ (n : ℕ) {m₁ : Bytes} where
    pub keys_grown : length (keys_in m) + n ≤ key_rooms_in m → {k : ℕ} → k ≡ length (keys_in m) → m₁ ≡ sets m key_count_place (bytes count_width (k + n))
        → Holds m (keys_in m ++ replicate n no_row) (versions_in m) m₁
    unfolding put_tables
    keys_grown h e p =
        let us : List Row = rs ++ replicate n no_row in
        let l : length us ≡ length rs + n = rw (length-append rs (replicate n no_row), length-replicate n no_row) in
        let g = region_grows row_bytes row_width no_row row_zeros rs n (key_rooms_in m) (length_table GoodRow row_width row_bytes length_row rs s.good.keys) h in
        record {
          put = p ∙ ap (λ (k : ℕ). sets m key_count_place (bytes count_width k)) (ap (λ (k : ℕ). k + n) e ∙ sym l)
              ∙ ap (λ (y : Bytes). sets y key_count_place (bytes count_width (length us))) (in_regions m s)
              ∙ head_keys t (key_region t ++ (version_region t ++ c)) us ∙ sym (regions (with_keys us t) c ∙ rw g);
          good = good_keys t us s.good (each_append GoodRow rs (replicate n no_row) s.good.keys (each_replicate GoodRow n no_row no_row_lem)) (rw l h);
        }

    pub versions_grown : length (versions_in m) + n ≤ version_rooms_in m → {k : ℕ} → k ≡ length (versions_in m) → m₁ ≡ sets m version_count_place (bytes count_width (k + n))
        → Holds m (keys_in m) (versions_in m ++ replicate n no_version) m₁
    unfolding put_tables
    versions_grown h e p =
        let us : List Version = vs ++ replicate n no_version in
        let l : length us ≡ length vs + n = rw (length-append vs (replicate n no_version), length-replicate n no_version) in
        let g = region_grows version_bytes version_width no_version version_zeros vs n (version_rooms_in m) (length_table GoodVersion version_width version_bytes length_version vs s.good.versions) h in
        record {
          put = p ∙ ap (λ (k : ℕ). sets m version_count_place (bytes count_width k)) (ap (λ (k : ℕ). k + n) e ∙ sym l)
              ∙ ap (λ (y : Bytes). sets y version_count_place (bytes count_width (length us))) (in_regions m s)
              ∙ head_versions t (key_region t ++ (version_region t ++ c)) us ∙ sym (regions (with_versions us t) c ∙ rw g);
          good = good_versions t us s.good (each_append GoodVersion vs (replicate n no_version) s.good.versions (each_replicate GoodVersion n no_version no_version_lem)) (rw l h);
        }

  -- ---- one row, by stores of its fields

  two_fields : (at w : ℕ) (a b : Bytes) {m₁ m₂ : Bytes} → length a ≡ w → m₁ ≡ sets m at a → m₂ ≡ sets m₁ (at + w) b → m₂ ≡ sets m at (a ++ b)
  two_fields at w a b e p q = q ∙ rw (p, ← e) (sym (sets_append m at a b))

  pub key_stored : (j : ℕ) (r : Row) {m₁ m₂ : Bytes} → GoodRow r → j < length (keys_in m) → m₁ ≡ sets m (head_size + row_width * j) (key_bytes r.key)
      → m₂ ≡ sets m₁ (head_size + row_width * j + key_width) (bytes count_width r.end) → Holds m (set (keys_in m) j r) (versions_in m) m₂
  unfolding row_bytes
  key_stored j r g h p q =
      record {
        put = put_row m s j r g h (two_fields (head_size + row_width * j) key_width (key_bytes r.key) (bytes count_width r.end) (length_key r.key g.short) p q);
        good = good_keys t (set rs j r) s.good (each_set GoodRow rs j r s.good.keys g) (rw length-set s.good.keys_fit);
      }

  pub version_stored : (j n : ℕ) (b : Bytes) {at : ℕ} {m₁ m₂ : Bytes} → n < 256 ^ number_width → Cell b → are_bytes b ≡ true → j < length (versions_in m)
      → at ≡ version_base (key_rooms_in m) + version_width * j → m₁ ≡ sets m at (bytes number_width n) → m₂ ≡ sets m₁ (at + number_width) b
      → Holds m (keys_in m) (set (versions_in m) j (version_by n b)) m₂
  unfolding version_bytes
  version_stored j n b {at} {m₁} {m₂} l d a h e p q =
      let v : Version = version_by n b in
      let g : GoodVersion v = record { low = l; short = payload_short b d.0 d.1 } in
      let z : payload_bytes (payload_from b) ≡ b = payload_put b a d.0 d.1 in
      let f : m₂ ≡ sets m at (bytes number_width n ++ payload_bytes (payload_from b)) = rw z (two_fields at number_width (bytes number_width n) b (length_bytes number_width n) p q) in
      record {
        put = put_version m s j v g h (rw e at f);
        good = good_versions t (set vs j v) s.good (each_set GoodVersion vs j v s.good.versions g) (rw length-set s.good.versions_fit);
      }
