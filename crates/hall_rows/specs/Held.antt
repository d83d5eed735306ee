-- Hall memory with other rows in it.
use Rattle.std.specs.Prelude.{◌≡◌, List}
use Rattle.model.specs.Bytes.{Bytes}
use Rattle.model.specs.State.{Version}
use Rattle.hall.specs.Layout.{Row, Tables, tables_in, put_tables}
use Rattle.hall.specs.Tables.{GoodTables, with_keys, with_versions}

abbrev pub other : Bytes → List Row → List Version → Tables
other m rs vs = with_keys rs (with_versions vs (tables_in m))

-- m₁ is the memory m with these key rows and version rows in it
pub record Holds (m : Bytes) (rs : List Row) (vs : List Version) (m₁ : Bytes) : Type 0 where
  pub put : m₁ ≡ put_tables m (other m rs vs)
  pub good : GoodTables (other m rs vs)
