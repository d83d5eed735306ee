-- Rows and versions of a memory that holds tables: read by their places, stored, put in; and ends that go up.
-- Assumes nothing.
use mathlib.Core.Path.{◌≡◌, refl, sym, ap, ◌∙◌}
use mathlib.Core.Bool.{true}
use mathlib.Core.List.{List, [], ◌∷◌, ◌++◌}
use Prim.Native.Nat.{ℕ, zero, suc, ◌+◌, ◌-◌, ◌*◌, ◌^◌, ◌≤◌, ◌<◌}
use native.Mathlib.Omega.{arith}
use lib.ListN.{length, length-map, length-set}
use lib.Seq.{sets}
use Rattle.model.specs.Sizes.{number_width, count_width}
use Rattle.model.specs.Bytes.{Bytes, part, num, bytes}
use Rattle.model.specs.State.{Version}
use Rattle.memory.specs.Rows.{rows, Each}
use Rattle.memory.proofs.Laws.Parts.{sets_append, sets_self}
use Rattle.memory.proofs.Laws.Rows.{length_rows}
use Rattle.memory.proofs.Laws.Each.{each_at, each_set}
use Rattle.cells.specs.Cells.{key_width, key_bytes, key_from, is_key_cell, payload_width, payload_bytes, payload_from, is_payload_cell}
use Rattle.cells.specs.Rows.{Ascending, KeyRows, Seekable, keys_at, place_of}
use Rattle.cells.specs.declared.rows.Place.{Place}
use Rattle.cells.proofs.Laws.Cells.{length_key, key_get, key_cell, payload_get, payload_cell}
use Rattle.cells.proofs.Laws.Rows as coded
use Rattle.hall.specs.Layout.{head_size, row_width, version_width, version_base, Row, row_bytes, version_bytes, row_from, version_from, key_rooms_in, key_count_in, version_count_in, keys_in, versions_in, tables_in, put_tables}
use Rattle.hall.specs.Tables.{GoodRow, GoodVersion, Shaped, with_keys, no_row, no_version, row_at, row_keys, version_at, end_before, set_end, bump}
use Rattle.hall.proofs.Laws.Tables.{row_cell, row_end, version_cell, version_number}
use Rattle.hall.proofs.Laws.Puts.{key_rows_lem, version_rows_lem, put_row}

pub key_total : (m : Bytes) → length (keys_in m) ≡ key_count_in m
unfolding keys_in
key_total m = rw (length-map (rows m head_size row_width (key_count_in m)) row_from, length_rows)

pub version_total : (m : Bytes) → length (versions_in m) ≡ version_count_in m
unfolding versions_in
version_total m = rw (length-map (rows m (version_base (key_rooms_in m)) version_width (version_count_in m)) version_from, length_rows)

-- ---- a key row

module _ (m : Bytes) (s : Shaped m) (i : ℕ) (h : i < length (keys_in m)) where
  abbrev r : Row
  r = row_at i (keys_in m)

  abbrev at : ℕ
  at = head_size + row_width * i

  pub row_good : GoodRow r
  row_good = each_at GoodRow (keys_in m) i no_row s.good.keys h

  pub row_fits_lem : head_size + row_width * i + row_width ≤ length m
  row_fits_lem = omega arith

  row_part : (k n : ℕ) → k + n ≤ row_width → part m (at + k) n ≡ part (row_bytes r) k n
  row_part = coded.field_coded row_bytes m head_size row_width (keys_in m) (key_rows_lem m s) i no_row h

  pub key_bytes_lem : part m (head_size + row_width * i) key_width ≡ key_bytes r.key
  key_bytes_lem =
      let e : at + 0 ≡ at = omega arith in
      rw e at (row_part 0 key_width (omega arith)) ∙ row_cell r row_good

  pub key_is_cell : is_key_cell (part m (head_size + row_width * i) key_width) ≡ true
  key_is_cell = rw key_bytes_lem (key_cell r.key row_good.short)

  pub key_told : key_from (part m (head_size + row_width * i) key_width) ≡ r.key
  key_told = rw key_bytes_lem (key_get r.key row_good.short)

  pub end_told : num (part m (head_size + row_width * i + key_width) count_width) ≡ r.end
  end_told = ap num (row_part key_width count_width (omega arith)) ∙ row_end r row_good

  -- its end stored
  pub put_end : (n : ℕ) {m₁ : Bytes} → n < 256 ^ count_width → m₁ ≡ sets m (head_size + row_width * i + key_width) (bytes count_width n)
      → m₁ ≡ put_tables m (with_keys (set_end i n (keys_in m)) (tables_in m))
  unfolding set_end row_bytes
  put_end n l p =
      let k : length (key_bytes r.key) ≡ key_width = length_key r.key row_good.short in
      let e : sets m at (key_bytes r.key) ≡ m = rw (← key_bytes_lem) (sets_self m at key_width (omega arith)) in
      let q : sets m at (key_bytes r.key ++ bytes count_width n) ≡ sets m (at + key_width) (bytes count_width n) =
      rw (sets_append m at (key_bytes r.key) (bytes count_width n), k, e) in
      put_row m s i (record { key = r.key; end = n }) (record { short = row_good.short; low = l }) h (p ∙ sym q)

-- the keys of the n rows that the header tells of, and one sought among them
module _ (m : Bytes) (s : Shaped m) {n : ℕ} (e : n ≡ length (keys_in m)) where
  pub keyed : KeyRows m head_size row_width n
  keyed =
      rw e
      (coded.key_rows_lem row_bytes m head_size row_width (keys_in m) (key_rows_lem m s) GoodRow (λ (r : Row). r.key)
      (λ r g. g.short) row_cell s.good.keys (omega arith) (omega arith))

  pub keys_told : keys_at m head_size row_width n ≡ row_keys (keys_in m)
  keys_told = rw e (coded.keys_are row_bytes m head_size row_width (keys_in m) (key_rows_lem m s) GoodRow (λ (r : Row). r.key) (λ r g. g.short) row_cell s.good.keys)

  pub seekable : Ascending (row_keys (keys_in m)) → Seekable m head_size row_width n
  seekable a = record { rows = keyed; ascend = rw keys_told a }

  pub sought : (k : Bytes) {p : Place} → p ≡ place_of k 0 (keys_at m head_size row_width n) → p ≡ place_of k 0 (row_keys (keys_in m))
  sought k f = f ∙ ap (place_of k 0) keys_told

-- ---- a version row

module _ (m : Bytes) (s : Shaped m) (j : ℕ) (h : j < length (versions_in m)) where
  abbrev v : Version
  v = version_at j (versions_in m)

  abbrev spot : ℕ
  spot = version_base (key_rooms_in m) + version_width * j

  pub version_good : GoodVersion v
  version_good = each_at GoodVersion (versions_in m) j no_version s.good.versions h

  pub version_fits : version_base (key_rooms_in m) + version_width * j + version_width ≤ length m
  version_fits = omega arith

  pub version_bytes_lem : part m (version_base (key_rooms_in m) + version_width * j) version_width ≡ version_bytes v
  version_bytes_lem = coded.row_coded version_bytes m (version_base (key_rooms_in m)) version_width (versions_in m) (version_rows_lem m s) j no_version h

  version_part : (k n : ℕ) → k + n ≤ version_width → part m (spot + k) n ≡ part (version_bytes v) k n
  version_part = coded.field_coded version_bytes m (version_base (key_rooms_in m)) version_width (versions_in m) (version_rows_lem m s) j no_version h

  pub number_told : num (part m (version_base (key_rooms_in m) + version_width * j) number_width) ≡ v.number
  number_told =
      let e : spot + 0 ≡ spot = omega arith in
      ap num (rw e at (version_part 0 number_width (omega arith))) ∙ version_number v version_good

  pub payload_bytes_lem : part m (version_base (key_rooms_in m) + version_width * j + number_width) payload_width ≡ payload_bytes v.payload
  payload_bytes_lem = version_part number_width payload_width (omega arith) ∙ version_cell v version_good

  pub payload_is_cell : is_payload_cell (part m (version_base (key_rooms_in m) + version_width * j + number_width) payload_width) ≡ true
  payload_is_cell = rw payload_bytes_lem (payload_cell v.payload version_good.short)

  pub payload_told : payload_from (part m (version_base (key_rooms_in m) + version_width * j + number_width) payload_width) ≡ v.payload
  payload_told = rw payload_bytes_lem (payload_get v.payload version_good.short)

-- ---- ends

pub length_set_end : (i n : ℕ) (rs : List Row) → length (set_end i n rs) ≡ length rs
unfolding set_end
length_set_end i n rs = length-set rs i _

pub good_set_end : (i n : ℕ) (rs : List Row) → Each GoodRow rs → i < length rs → n < 256 ^ count_width → Each GoodRow (set_end i n rs)
unfolding set_end
good_set_end i n rs a h l = each_set GoodRow rs i _ a (record { short = (each_at GoodRow rs i no_row a h).short; low = l })

-- the end before row i, where i is not the first
pub end_before_is : (b : ℕ) (rs : List Row) {i r : ℕ} → 0 < i → r ≡ (row_at (i - 1) rs).end → r ≡ end_before b i rs
unfolding end_before
end_before_is b rs {i} h p =
    let e : i ≡ suc (i - 1) = omega arith in
    p ∙ ap (λ (n : ℕ). end_before b n rs) (sym e)

pub length_bump : (i : ℕ) (rs : List Row) → length (bump i rs) ≡ length rs
unfolding bump
length_bump i [] = refl
length_bump zero (r ∷ rs) = ap suc (length_bump zero rs)
length_bump (suc i) (r ∷ rs) = ap suc (length_bump i rs)
