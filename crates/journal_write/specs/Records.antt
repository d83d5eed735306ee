-- The parts of a record in the journal that one writer writes, and how long it is.
use Rattle.std.specs.Prelude.{ℕ, ◌+◌, ◌≤◌, ◌<◌, ◌≡◌, ◌++◌, length}
use Rattle.model.specs.Sizes.{number_width, count_width}
use Rattle.model.specs.Bytes.{Bytes, bytes}
use Rattle.model.specs.State.{Writes}
use Rattle.model.specs.Journal.{Commit, mark, dump_writes}
use Rattle.journal_fields.specs.Places.{head_width}
use Rattle.desk.specs.Layout.{desks_in}
use Rattle.desk.specs.Shape.{Shaped, desk_in, own_writes}

-- what comes before the first write, where the body has `len` bytes
unfoldable pub record_head : (len number count : ℕ) → Bytes
record_head len n count = mark ++ (bytes count_width len ++ (bytes number_width n ++ bytes count_width count))

-- whatever the number is
unfoldable pub record_length : Writes → ℕ
record_length ws = head_width + length (dump_writes ws)

-- the commit of desk d's writes under number n
abbrev pub commit_in : Bytes → (d n : ℕ) → Commit
commit_in m d n = record { number = n; writes = own_writes (desk_in m d) }

-- a record of desk d's writes, of this length, can be written over the output
pub record Recordable (m : Bytes) (d len : ℕ) (out : Bytes) : Type 0 where
  pub shaped : Shaped m
  pub below : d < length (desks_in m)
  pub whole : len ≡ record_length (own_writes (desk_in m d))
  pub room : len ≤ length out
