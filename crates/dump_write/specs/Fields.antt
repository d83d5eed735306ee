-- The fields of a dump that a record of the journal has too: a key's, and a payload's.
use Rattle.std.specs.Prelude.{◌≡◌, ◌++◌, length}
use Rattle.model.specs.Sizes.{count_width}
use Rattle.model.specs.Bytes.{Bytes, bytes}
use Rattle.model.specs.State.{Payload}
use Rattle.cells.specs.Cells.{payload_bytes, Short}

-- what comes before whatever follows a key
unfoldable pub key_fields : Bytes → Bytes
key_fields k = bytes count_width (length k) ++ k

-- the cell c is that of a payload
pub record CellOf (c : Bytes) : Type 0 where
  pub payload : Payload
  pub short : Short payload
  pub bytes : c ≡ payload_bytes payload
