-- Runs of rows that move or rise, a version whose payload comes in its cell, and what stores of rows ask.
use Rattle.std.specs.Prelude.{ℕ, ◌+◌, ◌-◌, ◌^◌, ◌≤◌, ◌<◌, ◌≡◌, true, List, map, length, take, drop}
use Rattle.std.proofs.lemmas.List.Edits.{sets}
use Rattle.model.specs.Sizes.{max_key, count_width}
use Rattle.model.specs.Bytes.{Bytes}
use Rattle.model.specs.State.{Version}
use Rattle.cells.specs.Cells.{payload_width, payload_from, is_payload_cell}
use Rattle.hall.specs.Layout.{Row, keys_in, versions_in}
use Rattle.hall.specs.Tables.{Shaped, row_at}

-- rows `from` up to `to` moved up by `by` rows
abbrev pub shifted : {A : Type 0} → (from to by : ℕ) → List A → List A
shifted from to by xs = sets xs (from + by) (take (to - from) (drop from xs))

abbrev pub raise : (n : ℕ) → Row → Row
raise n r = record { key = r.key; end = r.end + n }

-- n more in the ends of rows `from` up to `to`
abbrev pub raised : (from to n : ℕ) → List Row → List Row
raised from to n rs = sets rs from (map (raise n) (take (to - from) (drop from rs)))

-- bytes that are a payload's cell
abbrev pub Cell : Bytes → Type 0
Cell c = (length c ≡ payload_width) × (is_payload_cell c ≡ true)

-- the version numbered n with the payload of cell c
abbrev pub version_by : (n : ℕ) → (c : Bytes) → Version
version_by n c = record { number = n; payload = payload_from c }

-- ---- what stores ask of a memory m

-- rows `from` up to `to` of a table with n rows may go up by `by` rows
pub record Shiftable (m : Bytes) (n from to by : ℕ) : Type 0 where
  pub shaped : Shaped m
  pub start : from ≤ to
  pub rows : to + by ≤ n

-- key row j may hold the key k with the end e
pub record KeyStorable (m : Bytes) (j : ℕ) (k : Bytes) (e : ℕ) : Type 0 where
  pub shaped : Shaped m
  pub below : j < length (keys_in m)
  pub short : length k ≤ max_key
  pub low : e < 256 ^ count_width

-- key row i may have the end e
pub record EndStorable (m : Bytes) (i e : ℕ) : Type 0 where
  pub shaped : Shaped m
  pub below : i < length (keys_in m)
  pub low : e < 256 ^ count_width

-- the ends of key rows `from` up to `to` may go up by n
pub record EndsRaisable (m : Bytes) (from to n : ℕ) : Type 0 where
  pub shaped : Shaped m
  pub start : from ≤ to
  pub rows : to ≤ length (keys_in m)
  pub low : (i : ℕ) → from ≤ i → i < to → (row_at i (keys_in m)).end + n < 256 ^ count_width

-- version row j may hold the payload of cell c
pub record VersionStorable (m : Bytes) (j : ℕ) (c : Bytes) : Type 0 where
  pub shaped : Shaped m
  pub below : j < length (versions_in m)
  pub cell : Cell c
