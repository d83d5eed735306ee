-- The dump: the bytes of a hall's versions (docs/RULES.md, 6.1).
use Rattle.std.specs.Prelude.{suc, List, [], ◌∷◌, ◌++◌, length}
use Rattle.model.specs.Sizes.{number_width, count_width, tag_width}
use Rattle.model.specs.Bytes.{Bytes, bytes}
use Rattle.model.specs.State.{Payload, deletion, content, Version, Chain, Entry, Hall}

-- `DSEMVCC1`
unfoldable pub magic : Bytes
magic = 0x44 ∷ 0x53 ∷ 0x45 ∷ 0x4D ∷ 0x56 ∷ 0x43 ∷ 0x43 ∷ 0x31 ∷ []

unfoldable pub dump_payload : Payload → Bytes
dump_payload deletion = bytes tag_width 0
dump_payload (content b) = bytes tag_width 1 ++ (bytes count_width (length b) ++ b)

unfoldable pub dump_version : Version → Bytes
dump_version v = bytes number_width v.number ++ dump_payload v.payload

unfoldable pub dump_chain : Chain → Bytes
dump_chain [] = []
dump_chain (v ∷ vs) = dump_version v ++ dump_chain vs

-- key k in front of x
abbrev pub dump_key : (k x : Bytes) → Bytes
dump_key k x = bytes count_width (length k) ++ (k ++ x)

unfoldable pub dump_entry : Entry → Bytes
dump_entry e = dump_key e.key (bytes count_width (length e.chain) ++ dump_chain e.chain)

unfoldable pub dump_entries : List Entry → Bytes
dump_entries [] = []
dump_entries (e ∷ es) = dump_entry e ++ dump_entries es

-- the next number is the counter's successor
unfoldable pub dump_hall : Hall → Bytes
dump_hall h =
    magic
    ++ (bytes number_width (suc h.counter) ++ (bytes count_width (length h.entries) ++ dump_entries h.entries))
