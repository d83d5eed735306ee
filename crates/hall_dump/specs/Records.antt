-- The parts of a dump that one writer writes.
use Rattle.std.specs.Prelude.{ℕ, suc, ◌≤◌, ◌<◌, List, ◌++◌, length, get_or}
use Rattle.model.specs.Sizes.{number_width, count_width}
use Rattle.model.specs.Bytes.{Bytes, bytes}
use Rattle.model.specs.State.{Entry, Hall}
use Rattle.model.specs.Dump.{magic, dump_key, dump_version, dump_entry}
use Rattle.hall.specs.Layout.{keys_in, versions_in, hall_in, Sound}
use Rattle.hall.specs.Tables.{Shaped, version_at, no_entry}

abbrev pub entry_at : ℕ → List Entry → Entry
entry_at i es = get_or es i no_entry

-- what comes before the first key's record
unfoldable pub dump_head : Hall → Bytes
dump_head h = magic ++ (bytes number_width (suc h.counter) ++ bytes count_width (length h.entries))

-- what comes before the n versions of a key's record
unfoldable pub key_head : (key : Bytes) (n : ℕ) → Bytes
key_head k n = dump_key k (bytes count_width n)

-- ---- what writers ask of a hall memory m and of the bytes o that they write to

-- there is a version j, and room for its record
pub record VersionWritable (m : Bytes) (j : ℕ) (o : Bytes) : Type 0 where
  pub shaped : Shaped m
  pub below : j < length (versions_in m)
  pub room : length (dump_version (version_at j (versions_in m))) ≤ length o

-- there is a key i, and room for its record
pub record KeyWritable (m : Bytes) (i : ℕ) (o : Bytes) : Type 0 where
  pub sound : Sound m
  pub below : i < length (keys_in m)
  pub room : length (dump_entry (entry_at i (hall_in m).entries)) ≤ length o
