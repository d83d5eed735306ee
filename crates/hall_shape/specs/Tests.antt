-- The tests that the code makes of a memory's bytes, one by one. That they say its form is proved.
use Rattle.std.specs.Prelude.{ℕ, ◌-◌, ◌≤◌, Bool, List, [], ◌∷◌, length, leb}
use Rattle.model.specs.Sizes.{max_key_rooms, max_version_rooms, max_desks, last_number}
use Rattle.model.specs.Bytes.{Bytes, part}
use Rattle.model.specs.Sound.{every, sizes_fit}
use Rattle.memory.specs.Spans.{all_zero}
use Rattle.memory.specs.Tests.{all_below}
use Rattle.cells.specs.Cells.{key_width, is_key_cell, payload_width, is_payload_cell}
use Rattle.hall.specs.Layout.{head_size, spare_place, row_place, version_base, version_place, payload_place, needed, key_rooms_in, version_rooms_in, counter_in, key_count_in, version_count_in, floor_in, desk_count_in}

-- zeros from place `from` up to place `to`
abbrev pub zero_between : Bytes → (from to : ℕ) → Bool
zero_between m from to = all_zero (part m from (to - from))

abbrev pub head_tests : Bytes → List Bool
head_tests m =
    sizes_fit (key_rooms_in m) (version_rooms_in m) (desk_count_in m)
    ∷ leb (counter_in m) last_number
    ∷ leb (key_count_in m) (key_rooms_in m)
    ∷ leb (version_count_in m) (version_rooms_in m)
    ∷ leb (needed (key_rooms_in m) (version_rooms_in m)) (length m)
    ∷ zero_between m spare_place head_size
    ∷ leb (floor_in m) (counter_in m)
    ∷ []

-- what the tests after the header's may assume
pub record Fits (m : Bytes) : Type 0 where
  pub few_keys : key_rooms_in m ≤ max_key_rooms
  pub few_versions : version_rooms_in m ≤ max_version_rooms
  pub few_desks : desk_count_in m ≤ max_desks
  pub keys_fit : key_count_in m ≤ key_rooms_in m
  pub versions_fit : version_count_in m ≤ version_rooms_in m
  pub long : needed (key_rooms_in m) (version_rooms_in m) ≤ length m

unfoldable pub key_test : Bytes → ℕ → Bool
key_test m i = is_key_cell (part m (row_place i) key_width)

unfoldable pub payload_test : Bytes → ℕ → Bool
payload_test m j = is_payload_cell (part m (payload_place (key_rooms_in m) j) payload_width)

-- the room that no key row uses, and the room that no version row uses
abbrev pub rest_tests : Bytes → List Bool
rest_tests m =
    zero_between m (row_place (key_count_in m)) (version_base (key_rooms_in m))
    ∷ zero_between m (version_place (key_rooms_in m) (version_count_in m))
    (needed (key_rooms_in m) (version_rooms_in m))
    ∷ []

abbrev pub shape_tests : Bytes → List Bool
shape_tests m =
    leb head_size (length m)
    ∷ every (head_tests m)
    ∷ all_below (key_count_in m) (key_test m)
    ∷ all_below (version_count_in m) (payload_test m)
    ∷ every (rest_tests m)
    ∷ []
