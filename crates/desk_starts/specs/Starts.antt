-- Open starts, sought among desks and among the numbers of versions.
use Rattle.std.specs.Prelude.{ℕ, suc, ◌≤◌, max, ◌≡◌, Bool, true, not, ◌&&◌, cond, List, [], ◌∷◌, drop}
use Rattle.model.specs.Bytes.{Bytes}
use Rattle.model.specs.State.{Version, Desk, is_some, writes_of}
use Rattle.model.specs.Sound.{within}
use Rattle.hall.specs.Layout.{Sound}
use Rattle.desk.specs.Layout.{occupied, desks_in}
use Rattle.desk.specs.Shape.{Shaped, start_of}

-- the desks of n from desk d on can be asked for the start t; o has their bits
pub record StartSought (n : Bytes) (o d t : ℕ) : Type 0 where
  pub shaped : Shaped n
  pub bits : o ≡ occupied (drop d (desks_in n))
  pub positive : 1 ≤ t

-- no version's number is an open start
unfoldable pub none_starts : List Desk → List Version → Bool
none_starts ds [] = true
none_starts ds (v ∷ vs) = not (is_some (writes_of v.number ds)) && none_starts ds vs

-- the greatest open start, 0 if no desk is open
unfoldable pub last_start : List Desk → ℕ
last_start [] = 0
last_start (x ∷ ds) = max (start_of x) (last_start ds)

-- every open start lies from lo to hi
pub record Between (lo hi : ℕ) (ds : List Desk) : Type 0 where
  pub positive : 1 ≤ lo
  pub starts : (t : ℕ) → is_some (writes_of t ds) ≡ true → (lo ≤ t) × (t ≤ hi)

-- so do those of n, beside a sound hall memory m
pub record StartsBetween (m n : Bytes) (lo hi : ℕ) : Type 0 where
  pub hall : Sound m
  pub shaped : Shaped n
  pub between : Between lo hi (desks_in n)

-- how many versions come before the first numbered from lo to hi
unfoldable pub outsiders : (lo hi : ℕ) → List Version → ℕ
outsiders lo hi [] = 0
outsiders lo hi (v ∷ vs) = cond (within lo hi v.number) 0 (suc (outsiders lo hi vs))
