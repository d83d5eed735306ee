-- A dump is within the output that it was lent.
-- Assumes nothing.
use mathlib.Core.Path.{◌≡◌}
use mathlib.Core.List.{[]}
use Prim.Native.Nat.{ℕ, ◌≤◌}
use Rattle.model.specs.Bytes.{Bytes}
use Rattle.model.specs.Calls.{dumped, dump, ask}
use Rattle.model.proofs.Cases.{by_bool, zero_one}
use Rattle.model_laws.proofs.Effects as effects
use Rattle.bridge.specs.Store.{store_in, is_sound_for, outcome_on, answer_on}

pub dump_within : (h : Bytes) (room n : ℕ) → dumped n ≡ answer_on h [] (ask (dump room)) → n ≤ room
unfolding outcome_on
dump_within h room n e =
    by_bool (is_sound_for (ask (dump room)) h [])
    (λ b. effects.dump_within (store_in h []) room n (rw (b, answer_on) at e))
    (λ b. zero_one (cc (rw (b, answer_on) at e)))
