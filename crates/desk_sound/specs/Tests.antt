-- The tests that the code makes of a shaped desk memory. That they say what desk's `is_sound` says is proved.
use Rattle.std.specs.Prelude.{ℕ, ◌<◌, ◌≡◌, Bool, true, not, ◌&&◌, List, [], ◌∷◌, leb, length, drop}
use Rattle.model.specs.Bytes.{Bytes}
use Rattle.model.specs.State.{Hall, Desk, free, taken, is_some, writes_of}
use Rattle.model.specs.Sound.{every, sound_writes}
use Rattle.hall.specs.Layout.{Sound}
use Rattle.desk.specs.Layout.{occupied, desks_in}
use Rattle.desk.specs.Shape.{Shaped, start_of, own_writes}

-- desk d of n, beside a sound hall memory m; o has the bits of the desks from it on
pub record DeskAt (m n : Bytes) (o d : ℕ) : Type 0 where
  pub hall : Sound m
  pub shaped : Shaped n
  pub below : d < length (desks_in n)
  pub bits : o ≡ occupied (drop d (desks_in n))

-- an open desk, before the desks ds
abbrev pub open_tests : Hall → Desk → (ds : List Desk) → List Bool
open_tests h x ds =
    leb 1 (start_of x)
    ∷ leb (start_of x) h.counter
    ∷ not (is_some (writes_of (start_of x) ds))
    ∷ sound_writes [] (own_writes x)
    ∷ []

-- a desk, before the desks ds
unfoldable pub desk_test : Hall → Desk → (ds : List Desk) → Bool
desk_test h free ds = true
desk_test h (taken x) ds = every (open_tests h (taken x) ds)

unfoldable pub desks_test : Hall → List Desk → Bool
desks_test h [] = true
desks_test h (x ∷ ds) = desk_test h x ds && desks_test h ds
