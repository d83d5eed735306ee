-- Hall memory with a run of rows copied down.
use Rattle.std.specs.Prelude.{ℕ, ◌+◌, ◌-◌, ◌≤◌, ◌≡◌, List, length, take, drop}
use Rattle.std.proofs.lemmas.List.Edits.{sets}
use Rattle.model.specs.Bytes.{Bytes}
use Rattle.model.specs.State.{Version}
use Rattle.hall.specs.Layout.{Row, keys_in, versions_in}
use Rattle.hall.specs.Tables.{Shaped}
use Rattle.hall_rows.specs.Held.{Holds}

-- m₁ is the memory m with the versions vs stored from place w on, and r is the place after them
pub record Stored (m : Bytes) (w : ℕ) (vs : List Version) (m₁ : Bytes) (r : ℕ) : Type 0 where
  pub place : r ≡ w + length vs
  pub holds : Holds m (keys_in m) (sets (versions_in m) w vs) m₁

-- rows j up to k of a table with n rows can be copied down to row w
pub record Copyable (m : Bytes) (n j k w : ℕ) : Type 0 where
  pub shaped : Shaped m
  pub low : w ≤ j
  pub start : j ≤ k
  pub end : k ≤ n

abbrev pub rows_between : (i k : ℕ) → List Row → List Row
rows_between i k rs = take (k - i) (drop i rs)
