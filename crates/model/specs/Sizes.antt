-- The sizes and limits of the store (docs/RULES.md, 2.1). The constants of src/lib.rt are the same numbers for code,
-- and contracts tie the two.
use Rattle.std.specs.Prelude.{ℕ, ◌-◌, ◌^◌}

-- bytes of the longest key
abbrev pub max_key : ℕ
max_key = 24

-- the bytes that a key may have
abbrev pub first_printable : ℕ
first_printable = 33

abbrev pub last_printable : ℕ
last_printable = 126

-- bytes of the longest value
abbrev pub max_value : ℕ
max_value = 96

abbrev pub max_key_rooms : ℕ
max_key_rooms = 1024

abbrev pub max_version_rooms : ℕ
max_version_rooms = 65536

abbrev pub max_desks : ℕ
max_desks = 64

-- different keys that one transaction may write
abbrev pub max_writes : ℕ
max_writes = 16

-- the highest number ever issued
abbrev pub last_number : ℕ
last_number = 2 ^ 64 - 2

-- bytes of a field in the dump and the journal: the magic, a record's mark, a number, a count or a length, a tag
abbrev pub magic_width : ℕ
magic_width = 8

abbrev pub mark_width : ℕ
mark_width = 2

abbrev pub number_width : ℕ
number_width = 8

abbrev pub count_width : ℕ
count_width = 4

abbrev pub tag_width : ℕ
tag_width = 1
