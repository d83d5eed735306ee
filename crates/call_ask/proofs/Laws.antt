-- A version asked for over hall memory alone: what each test on the way to an answer says of the outcome.
use mathlib.Core.Path.{◌≡◌, ◌∙◌}
use mathlib.Core.Bool.{true, false, not}
use mathlib.Core.List.{[], ◌∷◌}
use Rattle.std.specs.Prelude.{Option, None}
use Prim.Native.Nat.{ℕ}
use Rattle.model.specs.Bytes.{Bytes}
use Rattle.model.specs.State.{look, newest_of, value_of}
use Rattle.model.specs.Sound.{key_fits, within}
use Rattle.model.specs.Calls.{newest, as_of, ask, refused, stays, answering, check, read_outcome, reply, decide}
use Rattle.memory.specs.declared.spans.Span.{Span}
use Rattle.hall.specs.Layout.{counter_in, floor_in, is_sound, hall_in}
use Rattle.hall.proofs.Laws.Sound.{hall_floor, hall_counter}
use Rattle.hall_values.specs.Places.{Reading}
use Rattle.hall_values.specs.Sees.{sees}
use Rattle.hall_values.specs.Stands.{Stands, held_place}
use Rattle.hall_values.specs.declared.Placed.{Placed}
use Rattle.hall_values.proofs.Laws.{held_stands}
use Rattle.bridge.specs.Store.{store_in, asks_desks, looks_at_desks, is_sound_for, outcome_on}

module _ (h k : Bytes) (s : is_sound h ≡ true) where
  newest_sound : outcome_on h [] (ask (newest k)) ≡ check ((not (key_fits k), 3) ∷ []) (read_outcome None (value_of (newest_of (look k (hall_in h).entries))))
  unfolding outcome_on is_sound_for looks_at_desks asks_desks store_in decide reply
  newest_sound = rw s

  pub newest_key : key_fits k ≡ false → outcome_on h [] (ask (newest k)) ≡ answering (refused 3) stays
  unfolding check
  newest_key f = newest_sound ∙ rw f

  pub newest_read : key_fits k ≡ true → (v : Option Span) {r : Placed} → r ≡ held_place v
      → Stands h v (value_of (newest_of (look k (hall_in h).entries))) → Reading h h r (outcome_on h [] (ask (newest k)))
  unfolding check
  newest_read f v e a = rw (newest_sound, f, e) (held_stands h h v _ a)

  module _ (n : ℕ) where
    as_of_sound : outcome_on h [] (ask (as_of n k))
        ≡ check ((not (key_fits k), 3) ∷ (not (within (hall_in h).floor (hall_in h).counter n), 16) ∷ []) (read_outcome None (sees h n k))
    unfolding outcome_on is_sound_for looks_at_desks asks_desks store_in decide reply
    as_of_sound = rw s

    pub as_of_key : key_fits k ≡ false → outcome_on h [] (ask (as_of n k)) ≡ answering (refused 3) stays
    unfolding check
    as_of_key f = as_of_sound ∙ rw f

    -- the floor a and the counter b that were read
    module _ (f : key_fits k ≡ true) {a b : ℕ} (p : a ≡ floor_in h) (q : b ≡ counter_in h) where
      pub as_of_far : within a b n ≡ false → outcome_on h [] (ask (as_of n k)) ≡ answering (refused 16) stays
      unfolding check
      as_of_far g = as_of_sound ∙ rw (f, hall_floor h, hall_counter h, ← p, ← q, g)

      pub as_of_read : within a b n ≡ true → (v : Option Span) {r : Placed} → r ≡ held_place v → Stands h v (sees h n k)
          → Reading h h r (outcome_on h [] (ask (as_of n k)))
      unfolding check
      as_of_read g v e x = rw (as_of_sound, f, hall_floor h, hall_counter h, ← p, ← q, g, e) (held_stands h h v _ x)
