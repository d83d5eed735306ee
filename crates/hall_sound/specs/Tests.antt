-- The tests that the code makes of the rows of a hall memory, one by one. That, beside the form,
-- they say what hall's `is_sound` says is proved.
use Rattle.std.specs.Prelude.{ℕ, ◌≤◌, ◌<◌, Bool, true, List, [], ◌∷◌, ◌++◌, length, drop, leb, ltb, eqb}
use Rattle.std.proofs.Math.Seq.{slice}
use Rattle.model.specs.Bytes.{Bytes}
use Rattle.model.specs.State.{Version, Chain}
use Rattle.model.specs.Sound.{every}
use Rattle.cells.specs.Keys.{all_follow}
use Rattle.memory.specs.Tests.{all_below}
use Rattle.hall.specs.Layout.{Row, counter_in, keys_in, versions_in}
use Rattle.hall.specs.Tables.{Shaped, row_at, row_keys, version_at, end_before}
use Rattle.hall.specs.Seen.{RunIn}

-- m has the versions from place `from` up to `to`, and the one at place i
pub record ChainIn (m : Bytes) (from to i : ℕ) : Type 0 where
  pub run : RunIn m from to
  pub newest : i < length (versions_in m)

-- numbers strictly ascend, above `last` and at most `top`
unfoldable pub ascends : (last top : ℕ) → Chain → Bool
ascends last top [] = true
ascends last top (v ∷ vs) = every (ltb last v.number ∷ leb v.number top ∷ ascends v.number top vs ∷ [])

-- row i, among rows that come after b older versions: the newest of each in ns, the older ones in os
abbrev pub row_tests : (b top : ℕ) → List Row → (ns os : List Version) → (i : ℕ) → List Bool
row_tests b top rs ns os i =
    leb (end_before b i rs) (row_at i rs).end
    ∷ leb (row_at i rs).end (length os)
    ∷ ascends 0 top (slice (end_before b i rs) (row_at i rs).end os ++ version_at i ns ∷ [])
    ∷ []

unfoldable pub row_test : (b top : ℕ) → List Row → (ns os : List Version) → (i : ℕ) → Bool
row_test b top rs ns os i = every (row_tests b top rs ns os i)

-- of the rows in m
abbrev pub olders_in : Bytes → List Version
olders_in m = drop (length (keys_in m)) (versions_in m)

-- m has key row i, and a newest version for each key row
pub record RowIn (m : Bytes) (i : ℕ) : Type 0 where
  pub shaped : Shaped m
  pub below : i < length (keys_in m)
  pub newests : length (keys_in m) ≤ length (versions_in m)

abbrev pub row_of : Bytes → ℕ → Bool
row_of m i = row_test 0 (counter_in m) (keys_in m) (versions_in m) (olders_in m) i

abbrev pub order_tests : Bytes → List Bool
order_tests m =
    leb (length (keys_in m)) (length (versions_in m))
    ∷ all_follow [] (row_keys (keys_in m))
    ∷ all_below (length (keys_in m)) (row_of m)
    ∷ eqb (end_before 0 (length (keys_in m)) (keys_in m)) (length (olders_in m))
    ∷ []
