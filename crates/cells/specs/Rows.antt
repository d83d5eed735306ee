-- Rows of one width, each of which begins with its key; where a key stands among them.
use Rattle.std.specs.declared.cmp.Ordering.TheVariants.{Less}
use Rattle.std.specs.Prelude.{ℕ, suc, ◌+◌, ◌*◌, ◌≤◌, ◌<◌, ◌≡◌, true, List, [], ◌∷◌, map, length, get_or}
use Rattle.model.specs.Bytes.{Bytes, part, order, pick}
use Rattle.memory.specs.Rows.{rows, Each}
use Rattle.cells.specs.Cells.{key_width, key_from, is_key_cell}
use Rattle.cells.specs.declared.rows.Place.{Place}
use Rattle.cells.specs.declared.rows.Place.TheVariants.{At, Before}

-- the cell that a row begins with
abbrev pub first_cell : Bytes → Bytes
first_cell r = part r 0 key_width

-- the keys of n rows of w bytes from `at`
unfoldable pub keys_at : Bytes → (at w n : ℕ) → List Bytes
keys_at m at w n = map (λ (r : Bytes). key_from (first_cell r)) (rows m at w n)

-- each key is below every later one
abbrev pub Ascending : List Bytes → Type 0
Ascending ks = (i j : ℕ) → i < j → j < length ks → order (get_or ks i []) (get_or ks j []) ≡ Less

-- each of these rows begins with a key
pub record KeyRows (m : Bytes) (at w n : ℕ) : Type 0 where
  pub wide : key_width ≤ w
  pub fits : at + w * n ≤ length m
  pub keyed : Each (λ (r : Bytes). is_key_cell (first_cell r) ≡ true) (rows m at w n)

-- and the keys ascend, so that one can be sought among them
pub record Seekable (m : Bytes) (at w n : ℕ) : Type 0 where
  pub rows : KeyRows m at w n
  pub ascend : Ascending (keys_at m at w n)

-- where key k stands among keys of which the first is number i: at one of them, or before it
unfoldable pub place_of : Bytes → (i : ℕ) → List Bytes → Place
place_of k i [] = Before i
place_of k i (x ∷ xs) = pick (order k x) (Before i) (At i) (place_of k (suc i) xs)
