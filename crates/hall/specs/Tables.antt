-- Hall memory between two steps of a change: it holds tables that bytes can say, and the bytes of no others.
use Rattle.std.specs.Prelude.{ℕ, zero, suc, ◌+◌, ◌-◌, ◌^◌, ◌≤◌, ◌<◌, ◌≡◌, List, [], ◌∷◌, ◌++◌, map, length, get_or, set, take, drop}
use Rattle.model.specs.Sizes.{max_key, max_key_rooms, max_version_rooms, max_desks, number_width, count_width}
use Rattle.model.specs.Bytes.{Bytes}
use Rattle.model.specs.State.{deletion, Version, Chain, Entry}
use Rattle.memory.specs.Rows.{Each}
use Rattle.cells.specs.Cells.{Short}
use Rattle.hall.specs.Layout.{needed, Row, Tables, key_rooms_in, version_rooms_in, tables_in, put_tables}

-- ---- tables that bytes can say

pub record GoodRow (r : Row) : Type 0 where
  pub short : length r.key ≤ max_key
  pub low : r.end < 256 ^ count_width

pub record GoodVersion (v : Version) : Type 0 where
  pub low : v.number < 256 ^ number_width
  pub short : Short v.payload

pub record GoodTables (t : Tables) : Type 0 where
  pub few_keys : t.key_rooms ≤ max_key_rooms
  pub few_versions : t.version_rooms ≤ max_version_rooms
  pub few_desks : t.desk_count ≤ max_desks
  pub low : t.counter < 256 ^ number_width
  pub floor_low : t.floor < 256 ^ number_width
  pub keys_fit : length t.keys ≤ t.key_rooms
  pub versions_fit : length t.versions ≤ t.version_rooms
  pub keys : Each GoodRow t.keys
  pub versions : Each GoodVersion t.versions

pub record Shaped (m : Bytes) : Type 0 where
  pub good : GoodTables (tables_in m)
  pub long : needed (key_rooms_in m) (version_rooms_in m) ≤ length m
  pub same : m ≡ put_tables m (tables_in m)

-- ---- other tables of the same sizes

abbrev pub with_keys : List Row → Tables → Tables
with_keys rs t =
    record {
      key_rooms = t.key_rooms;
      version_rooms = t.version_rooms;
      desk_count = t.desk_count;
      counter = t.counter;
      floor = t.floor;
      keys = rs;
      versions = t.versions;
    }

abbrev pub with_versions : List Version → Tables → Tables
with_versions vs t =
    record {
      key_rooms = t.key_rooms;
      version_rooms = t.version_rooms;
      desk_count = t.desk_count;
      counter = t.counter;
      floor = t.floor;
      keys = t.keys;
      versions = vs;
    }

abbrev pub with_counter : ℕ → Tables → Tables
with_counter n t =
    record {
      key_rooms = t.key_rooms;
      version_rooms = t.version_rooms;
      desk_count = t.desk_count;
      counter = n;
      floor = t.floor;
      keys = t.keys;
      versions = t.versions;
    }

abbrev pub floored : ℕ → Tables → Tables
floored n t =
    record {
      key_rooms = t.key_rooms;
      version_rooms = t.version_rooms;
      desk_count = t.desk_count;
      counter = t.counter;
      floor = n;
      keys = t.keys;
      versions = t.versions;
    }

-- ---- rows and versions by their places

abbrev pub no_row : Row
no_row = record { key = []; end = 0 }

abbrev pub row_keys : List Row → List Bytes
row_keys rs = map (λ (r : Row). r.key) rs

abbrev pub no_version : Version
no_version = record { number = 0; payload = deletion }

abbrev pub no_entry : Entry
no_entry = record { key = []; chain = [] }

abbrev pub row_at : ℕ → List Row → Row
row_at i rs = get_or rs i no_row

abbrev pub version_at : ℕ → List Version → Version
version_at j vs = get_or vs j no_version

-- versions j up to `to`
abbrev pub between : (j to : ℕ) → List Version → List Version
between j to vs = take (to - j) (drop j vs)

-- the end of the row before row i; before the first, b
unfoldable pub end_before : (b i : ℕ) → List Row → ℕ
end_before b zero rs = b
end_before b (suc i) rs = (row_at i rs).end

-- the versions of key row i
abbrev pub chain_at : (i : ℕ) → List Row → List Version → Chain
chain_at i rs vs = between (length rs + end_before 0 i rs) (length rs + (row_at i rs).end) vs ++ version_at i vs ∷ []

-- row i with the end n
unfoldable pub set_end : (i n : ℕ) → List Row → List Row
set_end i n rs = set rs i (record { key = (row_at i rs).key; end = n })

-- one older version more in row i: its end and each later one go up by one
unfoldable pub bump : ℕ → List Row → List Row
bump i [] = []
bump zero (r ∷ rs) = record { key = r.key; end = suc r.end } ∷ bump zero rs
bump (suc i) (r ∷ rs) = r ∷ bump i rs

-- the ends never go down, from b on, and the last of them is n
abbrev pub Ends : (b n : ℕ) → List Row → Type 0
Ends b n [] = b ≡ n
Ends b n (r ∷ rs) = (b ≤ r.end) × Ends r.end n rs

-- each key row has a newest version, and the ends tell of all the others
abbrev pub Ranged : Tables → Type 0
Ranged t = (length t.keys ≤ length t.versions) × Ends 0 (length t.versions - length t.keys) t.keys
