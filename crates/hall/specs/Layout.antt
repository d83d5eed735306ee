-- Hall memory: which bytes a hall has, and which hall bytes say. All numbers are little-endian.
--    0  key rooms u32        8  counter u64         20  version count u32   32  number of desks u32
--    4  version rooms u32   16  key count u32       24  floor u64           36  zeros
--   64  for each key room a row: the key in its cell,
--       then u32 how many older versions this key and those before it have
--       then for each version room a row: number u64, the payload in its cell
-- Keys ascend. Of the versions the newest of each key stand first, row i being that of key i; then the older ones, key
-- after key, each key's oldest first. Room that is not used holds zeros.
use Rattle.std.specs.Prelude.{ℕ, ◌+◌, ◌-◌, ◌*◌, ◌≤◌, ◌≡◌, Bool, true, ◌&&◌, List, [], ◌∷◌, ◌++◌, map, length, take, drop, leb}
use Rattle.model.specs.Sizes.{number_width, count_width}
use Rattle.model.specs.Bytes.{Bytes, part, order, is_same, num, bytes}
use Rattle.model.specs.State.{Version, Chain, Entry, Hall}
use Rattle.model.specs.Sound.{sound_hall}
use Rattle.memory.specs.Spans.{padded}
use Rattle.memory.specs.Rows.{rows, joined}
use Rattle.cells.specs.Cells.{key_width, key_bytes, key_from, payload_width, payload_bytes, payload_from}

-- ---- widths and places

abbrev pub head_size : ℕ
head_size = 64

abbrev pub row_width : ℕ
row_width = key_width + count_width

abbrev pub version_width : ℕ
version_width = number_width + payload_width

abbrev pub key_rooms_place : ℕ
key_rooms_place = 0

abbrev pub version_rooms_place : ℕ
version_rooms_place = key_rooms_place + count_width

abbrev pub counter_place : ℕ
counter_place = version_rooms_place + count_width

abbrev pub key_count_place : ℕ
key_count_place = counter_place + number_width

abbrev pub version_count_place : ℕ
version_count_place = key_count_place + count_width

abbrev pub floor_place : ℕ
floor_place = version_count_place + count_width

abbrev pub desk_count_place : ℕ
desk_count_place = floor_place + number_width

abbrev pub spare_place : ℕ
spare_place = desk_count_place + count_width

-- where key row i begins, and its end
abbrev pub row_place : (i : ℕ) → ℕ
row_place i = head_size + row_width * i

abbrev pub end_place : (i : ℕ) → ℕ
end_place i = row_place i + key_width

-- where the version rows begin: after the last key room
abbrev pub version_base : (key_rooms : ℕ) → ℕ
version_base ks = row_place ks

-- where version row j begins, and its payload
abbrev pub version_place : (key_rooms j : ℕ) → ℕ
version_place ks j = version_base ks + version_width * j

abbrev pub payload_place : (key_rooms j : ℕ) → ℕ
payload_place ks j = version_place ks j + number_width

-- the length that hall memory needs follows from the sizes alone
abbrev pub needed : (key_rooms version_rooms : ℕ) → ℕ
needed ks vs = version_place ks vs

-- the length that it may need (docs/RULES.md, 2.2)
abbrev pub allowed : (key_rooms version_rooms : ℕ) → ℕ
allowed ks vs = 256 + 64 * ks + 128 * vs

-- ---- a hall as two tables

-- a key, and how many older versions it and the keys before it have
pub record Row : Type 0 where
  pub key : Bytes
  pub end : ℕ

pub record Tables : Type 0 where
  pub key_rooms : ℕ
  pub version_rooms : ℕ
  pub desk_count : ℕ
  pub counter : ℕ
  pub floor : ℕ
  pub keys : List Row
  pub versions : List Version

-- all of a chain but its newest version, and the newest
unfoldable pub older : Chain → Chain
older c = take (length c - 1) c

unfoldable pub latest : Chain → Chain
latest c = drop (length c - 1) c

-- the rows of entries that come after b older versions
unfoldable pub rows_of : (b : ℕ) → List Entry → List Row
rows_of b [] = []
rows_of b (e ∷ es) = record { key = e.key; end = b + (length e.chain - 1) } ∷ rows_of (b + (length e.chain - 1)) es

unfoldable pub newests_of : List Entry → List Version
newests_of [] = []
newests_of (e ∷ es) = latest e.chain ++ newests_of es

unfoldable pub olders_of : List Entry → List Version
olders_of [] = []
olders_of (e ∷ es) = older e.chain ++ olders_of es

abbrev pub versions_of : List Entry → List Version
versions_of es = newests_of es ++ olders_of es

-- the entries of rows that come after b older versions: their newest versions are the first of ns,
-- their older ones those of os
unfoldable pub entries_of : (b : ℕ) → List Row → (ns os : List Version) → List Entry
entries_of b [] ns os = []
entries_of b (r ∷ rs) ns os =
    record { key = r.key; chain = take (r.end - b) os ++ take 1 ns }
    ∷ entries_of r.end rs (drop 1 ns) (drop (r.end - b) os)

unfoldable pub tables_for : Hall → Tables
tables_for h =
    record {
      key_rooms = h.key_rooms;
      version_rooms = h.version_rooms;
      desk_count = h.desk_count;
      counter = h.counter;
      floor = h.floor;
      keys = rows_of 0 h.entries;
      versions = versions_of h.entries;
    }

unfoldable pub hall_for : Tables → Hall
hall_for t =
    record {
      key_rooms = t.key_rooms;
      version_rooms = t.version_rooms;
      desk_count = t.desk_count;
      counter = t.counter;
      floor = t.floor;
      entries = entries_of 0 t.keys t.versions (drop (length t.keys) t.versions);
    }

-- ---- tables as bytes

unfoldable pub row_bytes : Row → Bytes
row_bytes r = key_bytes r.key ++ bytes count_width r.end

unfoldable pub version_bytes : Version → Bytes
version_bytes v = bytes number_width v.number ++ payload_bytes v.payload

-- the header's numbers, one after the other
abbrev pub head_numbers : (key_rooms version_rooms counter keys versions floor desks : ℕ) → Bytes
head_numbers ks vs n k v f ds =
    bytes count_width ks ++ (bytes count_width vs ++ (bytes number_width n ++ (bytes count_width k
    ++ (bytes count_width v ++ (bytes number_width f ++ bytes count_width ds)))))

unfoldable pub head_bytes : Tables → Bytes
head_bytes t =
    padded head_size
    (head_numbers t.key_rooms t.version_rooms t.counter (length t.keys) (length t.versions) t.floor
    t.desk_count)

unfoldable pub table_bytes : Tables → Bytes
table_bytes t =
    head_bytes t
    ++ (padded (row_width * t.key_rooms) (joined (map row_bytes t.keys))
    ++ padded (version_width * t.version_rooms) (joined (map version_bytes t.versions)))

-- ---- bytes as tables

unfoldable pub row_from : Bytes → Row
row_from bs = record { key = key_from (part bs 0 key_width); end = num (part bs key_width count_width) }

unfoldable pub version_from : Bytes → Version
version_from bs =
    record { number = num (part bs 0 number_width); payload = payload_from (part bs number_width payload_width) }

abbrev pub key_rooms_in : Bytes → ℕ
key_rooms_in m = num (part m key_rooms_place count_width)

abbrev pub version_rooms_in : Bytes → ℕ
version_rooms_in m = num (part m version_rooms_place count_width)

abbrev pub counter_in : Bytes → ℕ
counter_in m = num (part m counter_place number_width)

abbrev pub key_count_in : Bytes → ℕ
key_count_in m = num (part m key_count_place count_width)

abbrev pub version_count_in : Bytes → ℕ
version_count_in m = num (part m version_count_place count_width)

abbrev pub floor_in : Bytes → ℕ
floor_in m = num (part m floor_place number_width)

abbrev pub desk_count_in : Bytes → ℕ
desk_count_in m = num (part m desk_count_place count_width)

unfoldable pub keys_in : Bytes → List Row
keys_in m = map row_from (rows m head_size row_width (key_count_in m))

unfoldable pub versions_in : Bytes → List Version
versions_in m = map version_from (rows m (version_base (key_rooms_in m)) version_width (version_count_in m))

abbrev pub tables_in : Bytes → Tables
tables_in m =
    record {
      key_rooms = key_rooms_in m;
      version_rooms = version_rooms_in m;
      desk_count = desk_count_in m;
      counter = counter_in m;
      floor = floor_in m;
      keys = keys_in m;
      versions = versions_in m;
    }

-- ---- a hall in a memory

unfoldable pub hall_in : Bytes → Hall
hall_in m = hall_for (tables_in m)

-- the memory m with the tables t in it: what comes after them stays
unfoldable pub put_tables : Bytes → Tables → Bytes
put_tables m t = table_bytes t ++ drop (needed t.key_rooms t.version_rooms) m

unfoldable pub put_hall : Bytes → Hall → Bytes
put_hall m h = put_tables m (tables_for h)

-- sound hall memory: it is long enough, its hall is sound, and its bytes are the ones that hall has
unfoldable pub is_sound : Bytes → Bool
is_sound m =
    leb (needed (hall_in m).key_rooms (hall_in m).version_rooms) (length m)
    && (sound_hall (hall_in m) && is_same (order m (put_hall m (hall_in m))))

-- the same, as inner functions ask for it
pub record Sound (m : Bytes) : Type 0 where
  pub long : needed (hall_in m).key_rooms (hall_in m).version_rooms ≤ length m
  pub hall : sound_hall (hall_in m) ≡ true
  pub same : m ≡ put_hall m (hall_in m)
