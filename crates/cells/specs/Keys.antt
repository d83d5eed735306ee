-- One key after another.
use Rattle.std.specs.Prelude.{Bool, true, ◌&&◌, List, [], ◌∷◌}
use Rattle.model.specs.Bytes.{Bytes, order, is_less}
use Rattle.model.specs.Sound.{are_printable}

-- k is printable and comes after `last`
abbrev pub follows : (last k : Bytes) → Bool
follows last k = is_less (order last k) && are_printable k

-- so does each of these keys after the one before it, the first after `last`
unfoldable pub all_follow : (last : Bytes) → List Bytes → Bool
all_follow last [] = true
all_follow last (k ∷ ks) = follows last k && all_follow k ks
