-- Where each field of a dump goes in hall memory, and the memory with a field stored there.
use Rattle.std.specs.Prelude.{ℕ, suc, ◌+◌, ◌-◌, ◌%◌, ◌^◌, ◌≤◌, cond, leb, ltb, eqb, length}
use Rattle.std.proofs.lemmas.List.Edits.{sets}
use Rattle.model.specs.Sizes.{max_key_rooms, max_version_rooms, number_width, count_width, tag_width}
use Rattle.model.specs.Bytes.{Bytes, bytes}
use Rattle.cells.specs.Cells.{key_width, value_place}
use Rattle.hall.specs.Layout.{row_place, version_place}
use Rattle.dump_fields.specs.declared.machine.Phase.{Phase}
use Rattle.dump_fields.specs.declared.machine.Phase.TheVariants.{Magic, Next, Count, KeyLength, Key, VersionCount, Number, Tag, ValueLength, Value, End}
use Rattle.dump_fields.specs.declared.machine.Loader.{Loader}
use Rattle.hall_place.specs.declared.Rows.{Rows}
use Rattle.hall_place.specs.declared.Target.{Target}
use Rattle.hall_place.specs.declared.Target.TheVariants.{Nowhere, Field, End as Ends}

-- bytes stored where they fit, and else nothing
unfoldable pub fit_sets : Bytes → (at : ℕ) → Bytes → Bytes
fit_sets m at xs = cond (leb (at + length xs) (length m)) (sets m at xs) m

-- ---- rows

-- one row more, up to the most that there are
abbrev pub up : (top i : ℕ) → ℕ
up top i = cond (ltb i top) (suc i) i

-- a row begins with its first field
abbrev pub rows_by : Phase → Rows → Rows
rows_by KeyLength g = record g { keys = up max_key_rooms g.keys }
rows_by Number g = record g { versions = up max_version_rooms g.versions }
rows_by _ g = g

-- a number cut to what a count's field can say
abbrev pub counted : ℕ → ℕ
counted n = n % 256 ^ count_width

-- how many older versions there are with those of a key that has n: all but one of each key begun
abbrev pub end_of : Rows → (n : ℕ) → ℕ
end_of g n = g.versions + counted n - g.keys

-- the version row that was begun last, where s is known. A key's last version is its newest: it has the key's own row.
-- Before an older one stand the versions begun earlier, the newest of its own key and that of each key to come.
abbrev pub version_row : Loader → Rows → ℕ
version_row s g = cond (eqb s.versions 0) (g.keys - 1) (counted s.keys + g.versions)

-- ---- where a field goes

-- where the key row stands at k and the version row at v
-- a key's length is one byte there: the field's others are zeros, and the key comes over them
abbrev pub target_at : Phase → (k v : ℕ) → Target
target_at Magic k v = Nowhere
target_at Next k v = Nowhere
target_at Count k v = Nowhere
target_at KeyLength k v = Field k
target_at (Key n) k v = Field (k + 1)
target_at VersionCount k v = Ends (k + key_width)
target_at Number k v = Field v
target_at Tag k v = Field (v + number_width)
target_at ValueLength k v = Field (v + (number_width + tag_width))
target_at (Value n) k v = Field (v + (number_width + value_place))
target_at End k v = Nowhere

-- rows that there may be, for so many rooms for keys
pub record Placeable (key_rooms : ℕ) (g : Rows) : Type 0 where
  pub rooms : key_rooms ≤ max_key_rooms
  pub keys : g.keys ≤ max_key_rooms
  pub versions : g.versions ≤ max_version_rooms

-- among the rows begun last; after the field s is known
abbrev pub target_of : (key_rooms : ℕ) → Phase → Loader → Rows → Target
target_of ks p s g = target_at p (row_place (g.keys - 1)) (version_place ks (version_row s g))

abbrev pub stored : Target → (end : ℕ) → (m f : Bytes) → Bytes
stored Nowhere end m f = m
stored (Field at) end m f = fit_sets m at f
stored (Ends at) end m f = fit_sets m at (bytes count_width end)
