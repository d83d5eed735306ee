-- Calls under a start: what is known of desk memory.
-- Assumes nothing.
use mathlib.Core.Path.{◌≡◌, refl}
use mathlib.Core.Bool.{false}
use Prim.Native.Nat.{ℕ, ◌<◌}
use lib.ListN.{length}
use Rattle.model.specs.Bytes.{Bytes}
use Rattle.model.specs.Calls.{Act, on, refused}
use Rattle.model_laws.proofs.Desks.{Distinct}
use Rattle.hall.specs.Layout.{hall_in}
use Rattle.desk.specs.Layout.{desks_in}
use Rattle.desk.specs.Shape.{Shaped, desk_of}
use Rattle.desk.proofs.Laws.Sound.{sound_distinct, sound_shaped}
use Rattle.desk.proofs.Laws.Starts.{open_at}
use Rattle.memory.specs.Which.{placed}
use Rattle.memory.specs.declared.Which.{Which}
use Rattle.memory.specs.declared.Which.TheVariants.{At}
use Rattle.memory.proofs.Laws.Which.{placed_at}
use Rattle.bridge.specs.Store.{looks_at_desks, are_sound, Sound}
use Rattle.bridge.specs.Clauses.{DeskCalled}
use Rattle.bridge.proofs.Laws.Memories.{by_desk, unsound}

module _ (h d : Bytes) where
  pub unsound_on : {t : ℕ} {a : Act} → are_sound h d ≡ false → DeskCalled h d d (on t a) (refused 1)
  unfolding looks_at_desks
  unsound_on {t} {a} e = by_desk (unsound h d (on t a) refl e)

  module _ (s : Sound h d) where
    pub apart : Distinct (desks_in d)
    apart = sound_distinct (hall_in h) d s.desk

    pub shaped : Shaped d
    shaped = sound_shaped (hall_in h) d s.desk

-- the desk that was found for a start
pub found_below : (m : Bytes) (t i : ℕ) {q : Which} → placed q ≡ desk_of t (desks_in m) → q ≡ At i
    → i < length (desks_in m)
found_below m t i e f = (open_at t (desks_in m) i (placed_at e f)).below
