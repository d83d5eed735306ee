-- A replay, exit by exit: what is found on the way says its outcome.
-- Assumes nothing.
use Prim.Native.Nat.{ℕ}
use native.Mathlib.Omega.{arith}
use mathlib.Core.Path.{◌≡◌, refl, sym, ◌∙◌}
use mathlib.Core.Bool.{false}
use borrow.Author.Tests.{eq-eqb, ne_eqb}
use Rattle.model.specs.Bytes.{Bytes}
use Rattle.model.specs.State.{open_desks}
use Rattle.model.specs.Calls.{replay, Answer, refused, replays, check, replay_of, replay_beside, decide, apply}
use Rattle.hall.specs.Layout.{hall_in}
use Rattle.hall.proofs.Laws.Halls.{sound_sizes}
use Rattle.desk.specs.Layout.{desks_in}
use Rattle.desk.proofs.Laws.Sound.{sound_shaped, all_there}
use Rattle.journal_replay.specs.Replays.{Vacant, Replayed}
use Rattle.bridge.specs.Store.{store_in, looks_at_desks, are_sound, Sound}
use Rattle.bridge.specs.Clauses.{Called}
use Rattle.bridge.proofs.Laws.Memories.{unsound, acts, refuses}

pub replay_unsound : (h d x : Bytes) → are_sound h d ≡ false → Called h d h d (replay x) (refused 1)
unfolding looks_at_desks
replay_unsound h d x e = unsound h d (replay x) refl e

-- n desks are open
module _ {h d : Bytes} (s : Sound h d) {n : ℕ} (e : n ≡ open_desks (desks_in d)) where
  pub replay_beside_lem : (x : Bytes) → (n ≡ 0 → ⊥) → Called h d h d (replay x) (refused 17)
  unfolding decide replay_beside check store_in
  replay_beside_lem x z = refuses h d s (rw (ne_eqb (open_desks (desks_in d)) 0 (λ o. z (e ∙ o))))

  module _ (z : n ≡ 0) where
    pub vacant : Vacant d
    vacant =
        let there = all_there (hall_in h) (desks_in d) s.desk.desks in
        let some = (sound_sizes (hall_in h) s.hall.hall).desks.0 in
        record { shaped = sound_shaped (hall_in h) d s.desk; some = omega (arith, there, some); none = sym e ∙ z }

    pub replay_does : {x h' d' : Bytes} {a : Answer} → Replayed h d x h' d' a → Called h d h' d' (replay x) a
    unfolding decide replay_beside check store_in apply
    replay_does {x} r =
        acts h d s {e = replays (replay_of (hall_in h) 0 x).commits}
        (rw (r.answer, eq-eqb (open_desks (desks_in d)) 0 (sym e ∙ z))) r.hall (r.desk ∙ s.desk.same)
