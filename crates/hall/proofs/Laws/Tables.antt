-- Tables in a memory: what is put is read.
-- Assumes nothing.
use mathlib.Core.Path.{◌≡◌, refl, sym, ap, ◌∙◌, subst}
use mathlib.Core.Bool.{true}
use mathlib.Core.List.{List, [], ◌++◌, map, append_assoc, append-nil}
use Prim.Native.Nat.{ℕ, ◌+◌, ◌-◌, ◌*◌, ◌^◌, ◌≤◌, ◌<◌}
use native.Mathlib.Omega.{arith}
use lib.ListN.{length, drop, length-append, length-drop}
use lib.Seq.{sets, drop_at}
use Rattle.model.specs.Sizes.{number_width, count_width}
use Rattle.model.specs.Bytes.{Bytes, are_bytes, part, num, bytes}
use Rattle.model.specs.State.{Version}
use Rattle.memory.specs.Spans.{zeros, padded}
use Rattle.memory.specs.Rows.{rows, joined}
use Rattle.memory.proofs.Laws.Numbers.{length_bytes, num_bytes, are_bytes_part}
use Rattle.memory.proofs.Laws.Parts.{sets_mid, part_add, part_all, part_first, part_mid, length_part, bytes_part, num_low}
use Rattle.memory.proofs.Laws.Spans.{length_padded}
use Rattle.memory.proofs.Laws.Each.{each_get, length_region, region_rows}
use Rattle.cells.specs.Cells.{key_width, key_bytes, key_from, is_key_cell, payload_width, payload_bytes, payload_from, is_payload_cell}
use Rattle.cells.proofs.Laws.Cells.{length_key, key_get, key_put, key_short, length_payload, payload_get, payload_put, payload_short}
use Rattle.hall.specs.Layout.{head_size, row_width, version_width, key_rooms_place, version_rooms_place, counter_place, key_count_place, version_count_place, floor_place, desk_count_place, spare_place, version_base, needed, Row, Tables, row_bytes, version_bytes, head_bytes, table_bytes, row_from, version_from, key_rooms_in, version_rooms_in, counter_in, key_count_in, version_count_in, floor_in, desk_count_in, keys_in, versions_in, tables_in, put_tables}
use Rattle.hall.specs.Tables.{GoodRow, GoodVersion, GoodTables, Shaped, with_keys, with_versions, with_counter, floored}

-- ---- a row

-- the second of two fields
field_after : (a b : Bytes) (at n : ℕ) → length a ≡ at → length b ≡ n → part (a ++ b) at n ≡ b
field_after a b at n e f = ap (λ (l : Bytes). part (a ++ l) at n) (sym (append-nil b)) ∙ part_mid a b [] at n e f

module _ (r : Row) (g : GoodRow r) where
  pub length_row : length (row_bytes r) ≡ row_width
  unfolding row_bytes
  length_row = rw (length-append, length_key r.key g.short, length_bytes)

  pub row_cell : part (row_bytes r) 0 key_width ≡ key_bytes r.key
  unfolding row_bytes
  row_cell = part_first (key_bytes r.key) (bytes count_width r.end) key_width (length_key r.key g.short)

  pub row_end : num (part (row_bytes r) key_width count_width) ≡ r.end
  unfolding row_bytes
  row_end =
      rw (field_after (key_bytes r.key) (bytes count_width r.end) key_width count_width (length_key r.key g.short) (length_bytes count_width r.end))
      (num_bytes count_width r.end g.low)

  pub row_get : row_from (row_bytes r) ≡ r
  unfolding row_from
  row_get =
      let k : key_from (part (row_bytes r) 0 key_width) ≡ r.key = rw row_cell (key_get r.key g.short) in
      λ i. record { key = k i; end = row_end i }

-- ---- a version

module _ (v : Version) (g : GoodVersion v) where
  pub length_version : length (version_bytes v) ≡ version_width
  unfolding version_bytes
  length_version = rw (length-append, length_payload v.payload g.short, length_bytes)

  pub version_cell : part (version_bytes v) number_width payload_width ≡ payload_bytes v.payload
  unfolding version_bytes
  version_cell =
      field_after (bytes number_width v.number) (payload_bytes v.payload) number_width payload_width (length_bytes number_width v.number) (length_payload v.payload g.short)

  pub version_number : num (part (version_bytes v) 0 number_width) ≡ v.number
  unfolding version_bytes
  version_number =
      rw (part_first (bytes number_width v.number) (payload_bytes v.payload) number_width (length_bytes number_width v.number))
      (num_bytes number_width v.number g.low)

  pub version_get : version_from (version_bytes v) ≡ v
  unfolding version_from
  version_get =
      let p : payload_from (part (version_bytes v) number_width payload_width) ≡ v.payload = rw version_cell (payload_get v.payload g.short) in
      λ i. record { number = version_number i; payload = p i }

-- ---- bytes that are a row's or a version's

-- two fields, one after the other, are the whole
two_fields : (c : Bytes) (a b : ℕ) → length c ≡ a + b → part c 0 a ++ part c a b ≡ c
two_fields c a b e =
    let z : 0 + a ≡ a = omega arith in
    sym (rw z at (part_add c 0 a b)) ∙ part_all c (a + b) e

module _ (c : Bytes) (a : are_bytes c ≡ true) (e : length c ≡ row_width) (k : is_key_cell (part c 0 key_width) ≡ true) where
  key_length_lem : length (part c 0 key_width) ≡ key_width
  key_length_lem = length_part c 0 key_width (omega arith)

  pub row_put : row_bytes (row_from c) ≡ c
  unfolding row_bytes row_from
  row_put = rw (key_put (part c 0 key_width) key_length_lem k, bytes_part c key_width count_width a (omega arith)) (two_fields c key_width count_width e)

  pub good_row : GoodRow (row_from c)
  unfolding row_from
  good_row = record { short = key_short (part c 0 key_width) key_length_lem k; low = num_low c key_width count_width a (omega arith) }

module _ (c : Bytes) (a : are_bytes c ≡ true) (e : length c ≡ version_width) (k : is_payload_cell (part c number_width payload_width) ≡ true) where
  pub payload_length : length (part c number_width payload_width) ≡ payload_width
  payload_length = length_part c number_width payload_width (omega arith)

  pub version_put : version_bytes (version_from c) ≡ c
  unfolding version_bytes version_from
  version_put =
      rw (payload_put (part c number_width payload_width) (are_bytes_part c number_width payload_width a) payload_length k, bytes_part c 0 number_width a (omega arith))
      (two_fields c number_width payload_width e)

  pub good_version : GoodVersion (version_from c)
  unfolding version_from
  good_version = record { low = num_low c 0 number_width a (omega arith); short = payload_short (part c number_width payload_width) payload_length k }

-- ---- the header

module _ (a c : Bytes) (at w v : ℕ) {m : Bytes} (p : m ≡ a ++ (bytes w v ++ c)) (e : length a ≡ at) where
  field_read : v < 256 ^ w → num (part m at w) ≡ v
  field_read h = rw (p, part_mid a (bytes w v) c at w e (length_bytes w v)) (num_bytes w v h)

  field_store : (u : ℕ) → sets m at (bytes w u) ≡ a ++ (bytes w u ++ c)
  field_store u = rw p (sets_mid a (bytes w v) c (bytes w u) at e (length_bytes w v ∙ sym (length_bytes w u)))

-- the numbers of the header, one by one
module _ (t : Tables) where
  abbrev A : Bytes
  A = bytes count_width t.key_rooms

  abbrev B : Bytes
  B = bytes count_width t.version_rooms

  abbrev C : Bytes
  C = bytes number_width t.counter

  abbrev D : Bytes
  D = bytes count_width (length t.keys)

  abbrev E : Bytes
  E = bytes count_width (length t.versions)

  abbrev F : Bytes
  F = bytes number_width t.floor

  abbrev G : Bytes
  G = bytes count_width t.desk_count

  numbers : length (A ++ (B ++ (C ++ (D ++ (E ++ (F ++ G)))))) ≡ spare_place
  numbers = simp (length-append, length_bytes)

  pub length_head : length (head_bytes t) ≡ head_size
  unfolding head_bytes
  length_head = length_padded head_size (A ++ (B ++ (C ++ (D ++ (E ++ (F ++ G)))))) (omega (arith, numbers))

  module _ (x : Bytes) where
    abbrev Z : Bytes
    Z = zeros (head_size - spare_place) ++ x

    head_apart : head_bytes t ++ x ≡ A ++ (B ++ (C ++ (D ++ (E ++ (F ++ (G ++ Z))))))
    unfolding head_bytes padded
    head_apart = rw numbers (simp append_assoc)

    at_counter : head_bytes t ++ x ≡ (A ++ B) ++ (C ++ (D ++ (E ++ (F ++ (G ++ Z)))))
    at_counter = head_apart ∙ simp append_assoc

    at_key_count : head_bytes t ++ x ≡ (A ++ (B ++ C)) ++ (D ++ (E ++ (F ++ (G ++ Z))))
    at_key_count = head_apart ∙ simp append_assoc

    at_version_count : head_bytes t ++ x ≡ (A ++ (B ++ (C ++ D))) ++ (E ++ (F ++ (G ++ Z)))
    at_version_count = head_apart ∙ simp append_assoc

    at_floor : head_bytes t ++ x ≡ (A ++ (B ++ (C ++ (D ++ E)))) ++ (F ++ (G ++ Z))
    at_floor = head_apart ∙ simp append_assoc

    at_desk_count : head_bytes t ++ x ≡ (A ++ (B ++ (C ++ (D ++ (E ++ F))))) ++ (G ++ Z)
    at_desk_count = head_apart ∙ simp append_assoc

module _ (t : Tables) (g : GoodTables t) (x : Bytes) where
  abbrev h : Bytes
  h = head_bytes t ++ x

  pub key_rooms_get : key_rooms_in h ≡ t.key_rooms
  key_rooms_get =
      field_read [] (B t ++ (C t ++ (D t ++ (E t ++ (F t ++ (G t ++ Z t x)))))) key_rooms_place count_width t.key_rooms
      (head_apart t x) refl (omega arith)

  version_rooms_get : version_rooms_in h ≡ t.version_rooms
  version_rooms_get =
      field_read (A t) (C t ++ (D t ++ (E t ++ (F t ++ (G t ++ Z t x))))) version_rooms_place count_width t.version_rooms
      (head_apart t x) (length_bytes count_width t.key_rooms) (omega arith)

  counter_get : counter_in h ≡ t.counter
  counter_get = field_read (A t ++ B t) (D t ++ (E t ++ (F t ++ (G t ++ Z t x)))) counter_place number_width t.counter (at_counter t x) (simp (length-append, length_bytes)) g.low

  key_count_get : key_count_in h ≡ length t.keys
  key_count_get =
      field_read (A t ++ (B t ++ C t)) (E t ++ (F t ++ (G t ++ Z t x))) key_count_place count_width (length t.keys)
      (at_key_count t x) (simp (length-append, length_bytes)) (omega arith)

  version_count_get : version_count_in h ≡ length t.versions
  version_count_get =
      field_read (A t ++ (B t ++ (C t ++ D t))) (F t ++ (G t ++ Z t x)) version_count_place count_width (length t.versions) (at_version_count t x) (simp (length-append, length_bytes))
      (omega arith)

  floor_get : floor_in h ≡ t.floor
  floor_get =
      field_read (A t ++ (B t ++ (C t ++ (D t ++ E t)))) (G t ++ Z t x) floor_place number_width t.floor (at_floor t x) (simp (length-append, length_bytes)) g.floor_low

  desk_count_get : desk_count_in h ≡ t.desk_count
  desk_count_get =
      field_read (A t ++ (B t ++ (C t ++ (D t ++ (E t ++ F t))))) (Z t x) desk_count_place count_width t.desk_count
      (at_desk_count t x) (simp (length-append, length_bytes)) (omega arith)

-- numbers of the header stored
module _ (t : Tables) (x : Bytes) where
  pub head_counter : (n : ℕ) → sets (head_bytes t ++ x) counter_place (bytes number_width n) ≡ head_bytes (with_counter n t) ++ x
  head_counter n =
      field_store (A t ++ B t) (D t ++ (E t ++ (F t ++ (G t ++ Z t x)))) counter_place number_width t.counter (at_counter t x) (simp (length-append, length_bytes)) n
      ∙ sym (at_counter (with_counter n t) x)

  pub head_keys : (rs : List Row) → sets (head_bytes t ++ x) key_count_place (bytes count_width (length rs)) ≡ head_bytes (with_keys rs t) ++ x
  head_keys rs =
      field_store (A t ++ (B t ++ C t)) (E t ++ (F t ++ (G t ++ Z t x))) key_count_place count_width (length t.keys) (at_key_count t x) (simp (length-append, length_bytes)) (length rs)
      ∙ sym (at_key_count (with_keys rs t) x)

  pub head_versions : (vs : List Version) → sets (head_bytes t ++ x) version_count_place (bytes count_width (length vs)) ≡ head_bytes (with_versions vs t) ++ x
  head_versions vs =
      field_store (A t ++ (B t ++ (C t ++ D t))) (F t ++ (G t ++ Z t x)) version_count_place count_width (length t.versions) (at_version_count t x) (simp (length-append, length_bytes)) (length vs)
      ∙ sym (at_version_count (with_versions vs t) x)

  pub head_floor : (n : ℕ) → sets (head_bytes t ++ x) floor_place (bytes number_width n) ≡ head_bytes (floored n t) ++ x
  head_floor n =
      field_store (A t ++ (B t ++ (C t ++ (D t ++ E t)))) (G t ++ Z t x) floor_place number_width t.floor (at_floor t x) (simp (length-append, length_bytes)) n
      ∙ sym (at_floor (floored n t) x)

-- ---- all of it

abbrev pub key_region : Tables → Bytes
key_region t = padded (row_width * t.key_rooms) (joined (map row_bytes t.keys))

abbrev pub version_region : Tables → Bytes
version_region t = padded (version_width * t.version_rooms) (joined (map version_bytes t.versions))

-- the length that tables need
abbrev pub needed_by : Tables → ℕ
needed_by t = needed t.key_rooms t.version_rooms

pub regions : (t : Tables) (c : Bytes) → table_bytes t ++ c ≡ head_bytes t ++ (key_region t ++ (version_region t ++ c))
unfolding table_bytes
regions t c = simp append_assoc

module _ (t : Tables) (g : GoodTables t) where
  length_keys : length (key_region t) ≡ row_width * t.key_rooms
  length_keys = length_region GoodRow row_width row_bytes length_row t.keys g.keys t.key_rooms g.keys_fit

  length_versions : length (version_region t) ≡ version_width * t.version_rooms
  length_versions = length_region GoodVersion version_width version_bytes length_version t.versions g.versions t.version_rooms g.versions_fit

  -- what stands before the version rows
  pub length_front : length (head_bytes t ++ key_region t) ≡ version_base t.key_rooms
  length_front = rw (length-append, length_head t, length_keys)

  pub length_tables : length (table_bytes t) ≡ needed_by t
  unfolding table_bytes
  length_tables = simp length-append (omega (arith, length_head t, length_keys, length_versions))

  pub keys_read : (c : Bytes) → rows (head_bytes t ++ (key_region t ++ (version_region t ++ c))) head_size row_width (length t.keys) ≡ map row_bytes t.keys
  keys_read c = region_rows GoodRow row_width row_bytes length_row t.keys g.keys (head_bytes t) (version_region t ++ c) head_size t.key_rooms (length_head t)

  pub versions_read : (c : Bytes)
      → rows (head_bytes t ++ (key_region t ++ (version_region t ++ c))) (version_base t.key_rooms) version_width (length t.versions) ≡ map version_bytes t.versions
  versions_read c =
      rw (← append_assoc (head_bytes t) (key_region t) (version_region t ++ c))
      (region_rows GoodVersion version_width version_bytes length_version t.versions g.versions (head_bytes t ++ key_region t) c (version_base t.key_rooms) t.version_rooms length_front)

  tables_get : (c : Bytes) → tables_in (table_bytes t ++ c) ≡ t
  unfolding keys_in versions_in
  tables_get c =
      let x : Bytes = key_region t ++ (version_region t ++ c) in
      let m : Bytes = head_bytes t ++ x in
      let a = key_rooms_get t g x in
      let b = version_rooms_get t g x in
      let d = counter_get t g x in
      let f = floor_get t g x in
      let n = desk_count_get t g x in
      let k : map row_from (rows m head_size row_width (key_count_in m)) ≡ t.keys =
      rw (key_count_get t g x, keys_read c) (each_get GoodRow row_bytes row_from row_get t.keys g.keys) in
      let v : map version_from (rows m (version_base (key_rooms_in m)) version_width (version_count_in m)) ≡ t.versions =
      rw (key_rooms_get t g x, version_count_get t g x, versions_read c) (each_get GoodVersion version_bytes version_from version_get t.versions g.versions) in
      ap tables_in (regions t c) ∙ (λ i. record { key_rooms = a i; version_rooms = b i; desk_count = n i; counter = d i; floor = f i; keys = k i; versions = v i })

  -- what is put is read
  pub put_get : (m : Bytes) → tables_in (put_tables m t) ≡ t
  unfolding put_tables
  put_get m = tables_get (drop (needed_by t) m)

  pub put_length : (m : Bytes) → needed_by t ≤ length m → length (put_tables m t) ≡ length m
  unfolding put_tables
  put_length m h = rw (length-append, length-drop) (omega (arith, length_tables))

  -- the last of two puts stays
  pub put_put : (m : Bytes) (u : Tables) → needed_by u ≡ needed_by t → put_tables (put_tables m t) u ≡ put_tables m u
  unfolding put_tables
  put_put m u e = rw (e, drop_at (table_bytes t) (drop (needed_by t) m) (needed_by t) length_tables)

  pub put_shaped : (m : Bytes) → needed_by t ≤ length m → Shaped (put_tables m t)
  put_shaped m h =
      let e = put_get m in
      record {
        good = subst (λ u. GoodTables u) (sym e) g;
        long = subst (λ u. needed_by u ≤ length (put_tables m t)) (sym e) (rw (put_length m h) h);
        same = subst (λ u. put_tables m t ≡ put_tables (put_tables m t) u) (sym e) (sym (put_put m t refl));
      }

  -- of a memory that was put
  module _ (m : Bytes) {m₁ : Bytes} (p : m₁ ≡ put_tables m t) where
    pub tables_put : tables_in m₁ ≡ t
    tables_put = ap tables_in p ∙ put_get m

    pub shaped_put : needed_by t ≤ length m → Shaped m₁
    shaped_put h = subst (λ l. Shaped l) (sym p) (put_shaped m h)

    -- a put that goes by what is then in memory
    pub put_then : (f : Tables → Tables) {m₂ : Bytes} → needed_by (f t) ≡ needed_by t → m₂ ≡ put_tables m₁ (f (tables_in m₁)) → m₂ ≡ put_tables m (f t)
    put_then f n q = q ∙ ap (λ (l : Bytes). put_tables l (f (tables_in l))) p ∙ ap (λ (u : Tables). put_tables (put_tables m t) (f u)) (put_get m) ∙ put_put m (f t) n
