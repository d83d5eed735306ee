-- The writes of a record's body, where they stand in it, and a desk that has them.
use Rattle.std.specs.Prelude.{ℕ, zero, suc, ◌+◌, ◌≤◌, ◌≡◌, [], ◌∷◌, ◌++◌, length, drop}
use Rattle.model.specs.Sizes.{max_writes, number_width, count_width}
use Rattle.model.specs.Bytes.{Bytes, part, num}
use Rattle.model.specs.State.{Write, Writes}
use Rattle.model.specs.Journal.{dump_write, dump_writes}
use Rattle.cells.specs.Cells.{payload_from}
use Rattle.journal_fields.specs.Places.{writes_in_body}
use Rattle.desk.specs.Shape.{RoomForWrite, RoomForWrites, desk_in, own_writes}
use Rattle.desk_writes.specs.Writes.{Open, Appendable}

-- ---- a write at a place

abbrev pub key_length_at : Bytes → (at : ℕ) → ℕ
key_length_at x at = num (part x at count_width)

abbrev pub payload_place : Bytes → (at : ℕ) → ℕ
payload_place x at = at + count_width + key_length_at x at

unfoldable pub write_at : Bytes → (at : ℕ) → Write
write_at x at =
    record {
      key = part x (at + count_width) (key_length_at x at);
      payload = payload_from (drop (payload_place x at) x);
    }

-- it is there as the dump has it, and a desk has room for it
pub record Dumped (x : Bytes) (at : ℕ) : Type 0 where
  pub rest : Bytes
  pub bytes : drop at x ≡ dump_write (write_at x at) ++ rest
  pub room : RoomForWrite (write_at x at)

pub record Stageable (x : Bytes) (at : ℕ) (m : Bytes) (d : ℕ) : Type 0 where
  pub dumped : Dumped x at
  pub desk : Appendable m d (write_at x at).key

-- ---- the writes of a body

unfoldable pub writes_from : (n at : ℕ) → Bytes → Writes
writes_from zero at x = []
writes_from (suc n) at x = write_at x at ∷ writes_from n (at + length (dump_write (write_at x at))) x

unfoldable pub writes_of : Bytes → Writes
writes_of x = writes_from (num (part x number_width count_width)) writes_in_body x

-- the body x has them as the dump does, and a desk has room for them
pub record Body (x : Bytes) : Type 0 where
  pub bytes : drop writes_in_body x ≡ dump_writes (writes_of x)
  pub count : length (writes_of x) ≡ num (part x number_width count_width)
  pub few : length (writes_of x) ≤ max_writes
  pub room : RoomForWrites (writes_of x)
  pub long : writes_in_body ≤ length x

-- and desk d, which is open, has none yet
pub record Staging (x m : Bytes) (d : ℕ) : Type 0 where
  pub body : Body x
  pub is_open : Open m d
  pub none : own_writes (desk_in m d) ≡ []
