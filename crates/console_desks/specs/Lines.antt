-- A line of the answer about the desks.
use Rattle.std.specs.Prelude.{ℕ, ◌≤◌, ◌<◌, length}
use Rattle.model.specs.Bytes.{Bytes}
use Rattle.desk.specs.Layout.{desks_in}
use Rattle.desk.specs.Shape.{Shaped}

-- desk d of n can have its line in the text x, from place `at` on
pub record LineAt (n : Bytes) (d : ℕ) (x : Bytes) (at : ℕ) : Type 0 where
  pub shaped : Shaped n
  pub below : d < length (desks_in n)
  pub inside : at ≤ length x
