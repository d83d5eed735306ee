-- Desk memory: which bytes the desks have, and which desks bytes say. All numbers are little-endian.
--    0  occupied desks u64: bit d is desk d; it has as many bits as there may be desks
--    8  how many desks there are u8
--    9  for each desk: start u64, count of writes u8, then for each write it may hold a row: the key in its cell,
--       the payload in its cell
-- Writes ascend by key; a free desk and room that is not used hold zeros.
use Rattle.std.specs.Prelude.{ℕ, ◌+◌, ◌*◌, ◌/◌, ◌%◌, ◌≤◌, ◌≡◌, Bool, true, ◌&&◌, cond, List, [], ◌∷◌, ◌++◌, map, length, get_or, drop, leb, eqb}
use Rattle.model.specs.Sizes.{max_desks, max_writes, number_width}
use Rattle.model.specs.Bytes.{Bytes, part, order, is_same, num, bytes}
use Rattle.model.specs.State.{Hall, Write, Desk, free, taken}
use Rattle.model.specs.Sound.{sound_desks}
use Rattle.memory.specs.Spans.{zeros, padded}
use Rattle.memory.specs.Rows.{rows, joined}
use Rattle.cells.specs.Cells.{key_width, key_bytes, key_from, payload_width, payload_bytes, payload_from}

-- ---- widths and places

abbrev pub write_width : ℕ
write_width = key_width + payload_width

-- in a desk: its start, the count of its writes, the first write
abbrev pub start_place : ℕ
start_place = 0

abbrev pub write_count_place : ℕ
write_count_place = start_place + number_width

abbrev pub writes_place : ℕ
writes_place = write_count_place + 1

abbrev pub desk_width : ℕ
desk_width = writes_place + write_width * max_writes

-- the occupied desks, the count of desks, the first desk
abbrev pub occupied_place : ℕ
occupied_place = 0

abbrev pub desk_count_place : ℕ
desk_count_place = occupied_place + number_width

abbrev pub desks_place : ℕ
desks_place = desk_count_place + 1

-- where desk d begins, and its write i
abbrev pub desk_place : (d : ℕ) → ℕ
desk_place d = desks_place + desk_width * d

abbrev pub write_place : (d i : ℕ) → ℕ
write_place d i = desk_place d + writes_place + write_width * i

-- for n desks
abbrev pub needed : (n : ℕ) → ℕ
needed n = desk_place n

-- the length that it may need (docs/RULES.md, 2.2)
abbrev pub allowed : (n : ℕ) → ℕ
allowed n = 2560 * n

-- ---- desks as bytes

-- bit d is set where desk d is taken
unfoldable pub occupied : List Desk → ℕ
occupied [] = 0
occupied (free ∷ ds) = 2 * occupied ds
occupied (taken x ∷ ds) = 1 + 2 * occupied ds

unfoldable pub write_bytes : Write → Bytes
write_bytes w = key_bytes w.key ++ payload_bytes w.payload

unfoldable pub desk_bytes : Desk → Bytes
desk_bytes free = zeros desk_width
desk_bytes (taken x) =
    bytes number_width x.start
    ++ (length x.writes ∷ padded (write_width * max_writes) (joined (map write_bytes x.writes)))

unfoldable pub desks_bytes : List Desk → Bytes
desks_bytes ds = bytes number_width (occupied ds) ++ (length ds ∷ joined (map desk_bytes ds))

-- ---- bytes as desks

unfoldable pub write_from : Bytes → Write
write_from b = record { key = key_from (part b 0 key_width); payload = payload_from (part b key_width payload_width) }

unfoldable pub taken_from : Bytes → Desk
taken_from bs =
    taken (record {
      start = num (part bs 0 number_width);
      writes = map write_from (rows bs writes_place write_width (get_or bs write_count_place 0));
    })

-- desks of which the lowest bit of o is the first
unfoldable pub desks_from : (o : ℕ) → List Bytes → List Desk
desks_from o [] = []
desks_from o (b ∷ bs) = cond (eqb (o % 2) 0) free (taken_from b) ∷ desks_from (o / 2) bs

abbrev pub occupied_in : Bytes → ℕ
occupied_in m = num (part m occupied_place number_width)

abbrev pub count_in : Bytes → ℕ
count_in m = get_or m desk_count_place 0

unfoldable pub desks_in : Bytes → List Desk
desks_in m = desks_from (occupied_in m) (rows m desks_place desk_width (count_in m))

-- ---- desks in a memory

-- the memory m with the desks ds in it: what comes after them stays
unfoldable pub put_desks : Bytes → List Desk → Bytes
put_desks m ds = desks_bytes ds ++ drop (needed (length ds)) m

-- sound desk memory beside the hall h: it is long enough, its desks are sound,
-- and its bytes are the ones those desks have
unfoldable pub is_sound : Hall → Bytes → Bool
is_sound h m =
    leb (needed (length (desks_in m))) (length m)
    && (sound_desks h (desks_in m) && is_same (order m (put_desks m (desks_in m))))

-- the same, beside a hall whose sizes fit, as inner functions ask for it
pub record Sound (h : Hall) (m : Bytes) : Type 0 where
  pub long : needed (length (desks_in m)) ≤ length m
  pub few : length (desks_in m) ≤ max_desks
  pub desks : sound_desks h (desks_in m) ≡ true
  pub same : m ≡ put_desks m (desks_in m)
