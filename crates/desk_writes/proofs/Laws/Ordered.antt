-- Sound desk memory: each desk's writes are sound, so they ascend by key.
-- Assumes nothing.
use mathlib.Core.Path.{◌≡◌, refl}
use mathlib.Core.Bool.{true}
use mathlib.Core.List.{List, [], ◌∷◌}
use Prim.Native.Nat.{ℕ, zero, suc}
use lib.ListN.{get_or}
use Rattle.model.specs.Bytes.{Bytes}
use Rattle.model.specs.State.{Hall, Writes, Desk, free, taken, written_keys}
use Rattle.model.specs.Sound.{sound_writes, sound_open}
use Rattle.model.proofs.Cases.{every_all}
use Rattle.model_laws.proofs.Keys.{asc_written}
use Rattle.model_laws.proofs.Tested.{writes_parts}
use Rattle.cells.proofs.Laws.Halving.{ascends}
use Rattle.desk.specs.Layout.{desks_in, Sound}
use Rattle.desk.specs.Shape.{desk_in, own_writes}
use Rattle.desk.proofs.Laws.Sound.{all_open, sound_shaped}
use Rattle.desk_writes.specs.Writes.{Ordered}

pub writes_sound : (h : Hall) (ds : List Desk) (d : ℕ) → sound_open h ds ≡ true
    → sound_writes [] (own_writes (get_or ds d free)) ≡ true
unfolding sound_open sound_writes
writes_sound h [] d e = refl
writes_sound h (free ∷ ds) zero e = refl
writes_sound h (free ∷ ds) (suc d) e = writes_sound h ds d e
writes_sound h (taken x ∷ ds) zero e = (every_all _ e).1.1.1.1.0
writes_sound h (taken x ∷ ds) (suc d) e = writes_sound h ds d (every_all _ e).1.1.1.1.1.0

pub sound_ordered : (h : Hall) (m : Bytes) → Sound h m → Ordered m
sound_ordered h m s =
    record {
      shaped = sound_shaped h m s;
      ascend = λ d. let ws : Writes = own_writes (desk_in m d) in
          let e : sound_writes [] ws ≡ true = writes_sound h (desks_in m) d (all_open h (desks_in m) s.desks) in
          ascends [] (written_keys ws) (asc_written [] ws (writes_parts [] ws e));
    }
