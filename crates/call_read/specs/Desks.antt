-- The desk that a transaction reads at.
use Rattle.std.specs.Prelude.{ℕ, ◌<◌, length}
use Rattle.model.specs.Bytes.{Bytes}
use Rattle.hall.specs.Layout.{Sound}
use Rattle.desk.specs.Layout.{desks_in}
use Rattle.desk_writes.specs.Writes.{Ordered}

-- desk d of n, beside a sound hall memory m
pub record Readable (m n : Bytes) (d : ℕ) : Type 0 where
  pub hall : Sound m
  pub desk : Ordered n
  pub below : d < length (desks_in n)
