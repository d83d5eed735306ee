-- Stores into a memory that holds tables, as other tables put into it.
-- Assumes nothing.
use mathlib.Core.Path.{◌≡◌, sym, ap, ◌∙◌}
use mathlib.Core.List.{List, ◌++◌, map, append_assoc}
use Prim.Native.Nat.{ℕ, ◌+◌, ◌*◌, ◌≤◌, ◌<◌}
use lib.ListN.{length, drop, set, length-set}
use lib.Seq.{sets}
use Rattle.model.specs.Sizes.{number_width, count_width}
use Rattle.model.specs.Bytes.{Bytes, bytes}
use Rattle.model.specs.State.{Version}
use Rattle.memory.specs.Spans.{zeros}
use Rattle.memory.specs.Rows.{rows, joined, Each}
use Rattle.memory.proofs.Laws.Each.{region_store, region_set}
use Rattle.hall.specs.Layout.{head_size, row_width, version_width, counter_place, key_count_place, version_count_place, floor_place, version_base, Row, Tables, row_bytes, version_bytes, head_bytes, key_rooms_in, version_rooms_in, keys_in, versions_in, tables_in, put_tables}
use Rattle.hall.specs.Tables.{GoodRow, GoodVersion, GoodTables, Shaped, with_keys, with_versions, with_counter, floored}
use Rattle.hall.proofs.Laws.Tables.{length_row, length_version, length_head, head_counter, head_keys, head_versions, head_floor, key_region, version_region, needed_by, regions, length_front, keys_read, versions_read}

-- ---- tables with other rows

pub good_keys : (t : Tables) (rs : List Row) → GoodTables t → Each GoodRow rs → length rs ≤ t.key_rooms → GoodTables (with_keys rs t)
good_keys t rs g a h =
    record { few_keys = g.few_keys; few_versions = g.few_versions; few_desks = g.few_desks; low = g.low; floor_low = g.floor_low; keys_fit = h; versions_fit = g.versions_fit; keys = a; versions = g.versions }

pub good_versions : (t : Tables) (vs : List Version) → GoodTables t → Each GoodVersion vs → length vs ≤ t.version_rooms → GoodTables (with_versions vs t)
good_versions t vs g a h =
    record { few_keys = g.few_keys; few_versions = g.few_versions; few_desks = g.few_desks; low = g.low; floor_low = g.floor_low; keys_fit = g.keys_fit; versions_fit = h; keys = g.keys; versions = a }

-- ---- a memory that holds tables

module _ (m : Bytes) (s : Shaped m) where
  abbrev t : Tables
  t = tables_in m

  abbrev c : Bytes
  c = drop (needed_by t) m

  abbrev rs : List Row
  rs = keys_in m

  abbrev vs : List Version
  vs = versions_in m

  abbrev base : ℕ
  base = version_base (key_rooms_in m)

  pub in_regions : m ≡ head_bytes t ++ (key_region t ++ (version_region t ++ c))
  unfolding put_tables
  in_regions = s.same ∙ regions t c

  pub in_front : m ≡ (head_bytes t ++ key_region t) ++ (version_region t ++ c)
  in_front = in_regions ∙ sym (append_assoc (head_bytes t) (key_region t) (version_region t ++ c))

  pub key_rows_lem : rows m head_size row_width (length rs) ≡ map row_bytes rs
  key_rows_lem = ap (λ (l : Bytes). rows l head_size row_width (length rs)) in_regions ∙ keys_read t s.good c

  pub version_rows_lem : rows m base version_width (length vs) ≡ map version_bytes vs
  version_rows_lem = ap (λ (l : Bytes). rows l base version_width (length vs)) in_regions ∙ versions_read t s.good c

  pub put_counter : (n : ℕ) {m₁ : Bytes} → m₁ ≡ sets m counter_place (bytes number_width n) → m₁ ≡ put_tables m (with_counter n t)
  unfolding put_tables
  put_counter n p =
      p ∙ ap (λ (l : Bytes). sets l counter_place (bytes number_width n)) in_regions ∙ head_counter t (key_region t ++ (version_region t ++ c)) n ∙ sym (regions (with_counter n t) c)

  pub put_floor : (n : ℕ) {m₁ : Bytes} → m₁ ≡ sets m floor_place (bytes number_width n) → m₁ ≡ put_tables m (floored n t)
  unfolding put_tables
  put_floor n p =
      p ∙ ap (λ (l : Bytes). sets l floor_place (bytes number_width n)) in_regions ∙ head_floor t (key_region t ++ (version_region t ++ c)) n ∙ sym (regions (floored n t) c)

  -- other key rows, with k zeros after them, then their count
  pub put_keys : (ks : List Row) (k : ℕ) {m₁ m₂ : Bytes} → Each GoodRow ks → row_width * length rs ≤ row_width * length ks + k → row_width * length ks + k ≤ row_width * key_rooms_in m
      → m₁ ≡ sets m head_size (joined (map row_bytes ks) ++ zeros k)
      → m₂ ≡ sets m₁ key_count_place (bytes count_width (length ks))
      → m₂ ≡ put_tables m (with_keys ks t)
  unfolding put_tables
  put_keys ks k a h l p q =
      let x : Bytes = version_region t ++ c in
      let e : sets m head_size (joined (map row_bytes ks) ++ zeros k) ≡ head_bytes t ++ (key_region (with_keys ks t) ++ x) =
      ap (λ (y : Bytes). sets y head_size (joined (map row_bytes ks) ++ zeros k)) in_regions
      ∙ region_store GoodRow row_width row_bytes length_row rs s.good.keys (head_bytes t) x head_size (key_rooms_in m) (length_head t) ks k a h l in
      q ∙ ap (λ (y : Bytes). sets y key_count_place (bytes count_width (length ks))) (p ∙ e) ∙ head_keys t (key_region (with_keys ks t) ++ x) ks ∙ sym (regions (with_keys ks t) c)

  -- other version rows, with k zeros after them, then their count
  pub put_versions : (us : List Version) (k : ℕ) {m₁ m₂ : Bytes} → Each GoodVersion us → version_width * length vs ≤ version_width * length us + k
      → version_width * length us + k ≤ version_width * version_rooms_in m
      → m₁ ≡ sets m base (joined (map version_bytes us) ++ zeros k)
      → m₂ ≡ sets m₁ version_count_place (bytes count_width (length us))
      → m₂ ≡ put_tables m (with_versions us t)
  unfolding put_tables
  put_versions us k a h l p q =
      let f : Bytes = head_bytes t ++ key_region t in
      let x : Bytes = version_region (with_versions us t) ++ c in
      let e : sets m base (joined (map version_bytes us) ++ zeros k) ≡ head_bytes t ++ (key_region t ++ x) =
      ap (λ (y : Bytes). sets y base (joined (map version_bytes us) ++ zeros k)) in_front
      ∙ region_store GoodVersion version_width version_bytes length_version vs s.good.versions f c base (version_rooms_in m) (length_front t s.good) us k a h l
      ∙ append_assoc (head_bytes t) (key_region t) x in
      q ∙ ap (λ (y : Bytes). sets y version_count_place (bytes count_width (length us))) (p ∙ e) ∙ head_versions t (key_region t ++ x) us ∙ sym (regions (with_versions us t) c)

  -- one key row stored
  pub put_row : (i : ℕ) (r : Row) {m₁ : Bytes} → GoodRow r → i < length rs → m₁ ≡ sets m (head_size + row_width * i) (row_bytes r) → m₁ ≡ put_tables m (with_keys (set rs i r) t)
  unfolding put_tables head_bytes
  put_row i r g h p =
      let l : length (set rs i r) ≡ length rs = length-set rs i r in
      p ∙ ap (λ (y : Bytes). sets y (head_size + row_width * i) (row_bytes r)) in_regions
      ∙ region_set GoodRow row_width row_bytes length_row rs s.good.keys (head_bytes t) (version_region t ++ c) head_size (key_rooms_in m) (length_head t) i r g h
      ∙ rw (regions (with_keys (set rs i r) t) c, l)

  -- one version row stored
  pub put_version : (j : ℕ) (v : Version) {m₁ : Bytes} → GoodVersion v → j < length vs → m₁ ≡ sets m (base + version_width * j) (version_bytes v)
      → m₁ ≡ put_tables m (with_versions (set vs j v) t)
  unfolding put_tables head_bytes
  put_version j v g h p =
      let l : length (set vs j v) ≡ length vs = length-set vs j v in
      p ∙ ap (λ (y : Bytes). sets y (base + version_width * j) (version_bytes v)) in_front
      ∙ region_set GoodVersion version_width version_bytes length_version vs s.good.versions (head_bytes t ++ key_region t) c base (version_rooms_in m) (length_front t s.good) j v g h
      ∙ rw (regions (with_versions (set vs j v) t) c, l) (append_assoc (head_bytes t) (key_region t) _)
