-- The room in hall memory, by its header.
-- Assumes nothing.
use Prim.Native.Nat.{ℕ, ◌-◌}
use mathlib.Core.Path.{◌≡◌}
use mathlib.Core.Bool.{Bool}
use lib.Dec.{ltb}
use lib.ListN.{length}
use Rattle.model.specs.Bytes.{Bytes}
use Rattle.model.specs.State.{version_count}
use Rattle.model.specs.Calls.{new_keys}
use Rattle.hall.specs.Layout.{key_rooms_in, version_rooms_in, keys_in, versions_in, hall_in}
use Rattle.hall.proofs.Laws.Sound as halls
use Rattle.hall_sought.specs.Sought.{writes_in, Ready}

module _ {m n : Bytes} {k : ℕ} (s : Ready m n k) {x : Bool} where
  pub keys_told : {a b c : ℕ} → a ≡ key_rooms_in m → b ≡ length (keys_in m) → c ≡ new_keys (writes_in n k) (hall_in m).entries → ltb (a - b) c ≡ x
      → ltb ((hall_in m).key_rooms - length (hall_in m).entries) (new_keys (writes_in n k) (hall_in m).entries) ≡ x
  keys_told e f g t = rw (halls.hall_key_rooms m, ← e, ← halls.keys_counted m s.hall, ← f, ← g) t

  pub versions_told : {a b c : ℕ} → a ≡ version_rooms_in m → b ≡ length (versions_in m) → c ≡ length (writes_in n k) → ltb (a - b) c ≡ x
      → ltb ((hall_in m).version_rooms - version_count (hall_in m).entries) (length (writes_in n k)) ≡ x
  versions_told e f g t = rw (halls.hall_version_rooms m, ← e, ← halls.versions_counted m s.hall, ← f, ← g) t
