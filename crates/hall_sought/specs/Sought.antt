-- Where the keys of a desk's writes stand in the hall, sought once for a whole commit.
use Rattle.std.specs.Prelude.{ℕ, ◌/◌, ◌%◌, ◌≤◌, ◌<◌, ◌≡◌, cond, List, eqb, length, get_or}
use Rattle.model.specs.Bytes.{Bytes}
use Rattle.model.specs.State.{Writes}
use Rattle.model.specs.Calls.{new_keys}
use Rattle.cells.specs.Rows.{place_of}
use Rattle.cells.specs.declared.rows.Place.{Place}
use Rattle.cells.specs.declared.rows.Place.TheVariants.{At, Before}
use Rattle.hall.specs.Layout as hall
use Rattle.hall.specs.Layout.{keys_in, hall_in}
use Rattle.hall.specs.Tables.{row_keys}
use Rattle.desk.specs.Layout.{desks_in}
use Rattle.desk.specs.Shape as desk
use Rattle.desk.specs.Shape.{desk_in, own_writes}
use Rattle.desk_writes.specs.Writes.{write_at}

-- the writes of desk d
abbrev pub writes_in : Bytes → (d : ℕ) → Writes
writes_in m d = own_writes (desk_in m d)

-- a sound hall memory, and desk d of a desk memory of which only the form is known
pub record Ready (m n : Bytes) (d : ℕ) : Type 0 where
  pub hall : hall.Sound m
  pub desks : desk.Shaped n
  pub below : d < length (desks_in n)

-- a place as one number: the gap before row p is 2 p, row p is 2 p + 1
abbrev pub place_from : ℕ → Place
place_from c = cond (eqb (c % 2) 0) (Before (c / 2)) (At (c / 2))

-- the first j numbers of `at` are the places of the first j writes, among the keys ks
abbrev pub SoughtTo : (ks : List Bytes) → Writes → (at : List ℕ) → (j : ℕ) → Type 0
SoughtTo ks ws at j = (i : ℕ) → i < j → place_from (get_or at i 0) ≡ place_of (write_at ws i).key 0 ks

pub record Sought (ks : List Bytes) (ws : Writes) (at : List ℕ) : Type 0 where
  pub enough : length ws ≤ length at
  pub each : SoughtTo ks ws at (length ws)

-- the places of desk d's writes are in `at`, and r of their keys are new
pub record Found (m n : Bytes) (d : ℕ) (at : List ℕ) (r : ℕ) : Type 0 where
  pub sought : Sought (row_keys (keys_in m)) (writes_in n d) at
  pub new : r ≡ new_keys (writes_in n d) (hall_in m).entries
