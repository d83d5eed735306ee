-- A key and a payload in a memory, each in a cell of one width; the same in hall and desk memory. A clash in an output.
use Rattle.std.specs.Prelude.{ℕ, ◌+◌, ◌/◌, ◌≤◌, Bool, ◌&&◌, cond, ◌∷◌, ◌++◌, map, length, get_or, take, drop, leb, eqb}
use Rattle.model.specs.Sizes.{max_key, max_value, number_width, count_width, tag_width}
use Rattle.model.specs.Bytes.{Bytes, part, num, bytes}
use Rattle.model.specs.State.{Payload, deletion, content}
use Rattle.model.specs.Dump.{dump_payload}
use Rattle.model.specs.Calls.{Clashes}
use Rattle.memory.specs.Spans.{padded, all_zero}
use Rattle.memory.specs.Rows.{joined}

-- ---- keys: the length in one byte, the key, zeros

abbrev pub key_width : ℕ
key_width = 1 + max_key

unfoldable pub key_bytes : Bytes → Bytes
key_bytes k = length k ∷ padded max_key k

unfoldable pub key_from : Bytes → Bytes
key_from c = part c 1 (get_or c 0 0)

-- the cell is that of a key
unfoldable pub is_key_cell : Bytes → Bool
is_key_cell c = leb (get_or c 0 0) max_key && all_zero (drop (1 + get_or c 0 0) c)

-- ---- payloads: as the dump has them, zeros

abbrev pub payload_width : ℕ
payload_width = tag_width + count_width + max_value

-- where a value's bytes begin
abbrev pub value_place : ℕ
value_place = tag_width + count_width

unfoldable pub payload_bytes : Payload → Bytes
payload_bytes p = padded payload_width (dump_payload p)

-- a value that the cell has room for
abbrev pub Short : Payload → Type 0
Short deletion = Unit {0}
Short (content b) = length b ≤ max_value

-- the length of a value
unfoldable pub value_length : Bytes → ℕ
value_length c = num (part c tag_width count_width)

unfoldable pub payload_from : Bytes → Payload
payload_from c = cond (eqb (get_or c 0 0) 0) deletion (content (part c value_place (value_length c)))

-- the cell is that of a payload
unfoldable pub is_payload_cell : Bytes → Bool
is_payload_cell c =
    cond (eqb (get_or c 0 0) 0)
    (all_zero (drop tag_width c))
    (eqb (get_or c 0 0) 1 && (leb (value_length c) max_value && all_zero (drop (value_place + value_length c) c)))

-- ---- clashes: the key's newest number, the key's cell

abbrev pub clash_width : ℕ
clash_width = number_width + key_width

unfoldable pub clash_bytes : Bytes × ℕ → Bytes
clash_bytes c = bytes number_width c.1 ++ key_bytes c.0

-- the first clashes, as many as have room in n bytes
unfoldable pub listed : (n : ℕ) → Clashes → Bytes
listed n cs = joined (map clash_bytes (take (n / clash_width) cs))
