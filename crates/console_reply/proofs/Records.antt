-- A record is within the journal that it was lent.
-- Assumes nothing.
use mathlib.Core.List.{[], ◌∷◌}
use Rattle.std.specs.Prelude.{Some}
use Prim.Native.Nat.{ℕ, ◌≤◌}
use native.Mathlib.Omega.{arith}
use lib.ListN.{length}
use borrow.Author.Tests.{ltb-false}
use Rattle.model.specs.Bytes.{Bytes}
use Rattle.model.specs.State.{Hall, Writes}
use Rattle.model.specs.Calls.{commit_to, on, Clashes, Answer, Effect, Outcome, answering, settle, act, decide}
use Rattle.model.proofs.Cases.{by_bool}
use Rattle.model_laws.proofs.Effects.{checked}
use Rattle.answers.specs.declared.Recorded.{Recorded}
use Rattle.bridge.specs.Store.{is_sound_for, outcome_on}
use Rattle.bridge.specs.Clauses.{Recording}

-- the bytes that an outcome hands back have that room
record Within (room : ℕ) (o : Outcome) : Type 0 where
  fits : length o.bytes ≤ room

none_within : {room : ℕ} {a : Answer} {e : Effect} → Within room (answering a e)
none_within = record { fits = omega arith }

settle_within : (g : Hall) (room t : ℕ) (ws : Writes) (cs : Clashes) → Within room (settle g (Some room) t ws cs)
unfolding settle
settle_within g room t [] cs = none_within
settle_within g room t (w ∷ ws) (c ∷ cs) = none_within
settle_within g room t (w ∷ ws) [] =
    checked (Within room) (λ n. none_within) _ _
    (λ a. checked (Within room) (λ n. none_within) _ _ (λ b. record { fits = ltb-false room _ b.0 }))

outcome_within : (h d : Bytes) (t room : ℕ) → Within room (outcome_on h d (on t (commit_to (Some room))))
unfolding outcome_on decide act
outcome_within h d t room =
    by_bool (is_sound_for (on t (commit_to (Some room))) h d)
    (λ b. rw b (checked (Within room) (λ n. none_within) _ _ (λ a. settle_within _ room t _ _)))
    (λ b. rw b none_within)

pub record_within : {h d h' d' list list' blank filled : Bytes} {t : ℕ} {r : Recorded}
    → Recording (Some (length blank)) h d h' d' list list' blank filled t r → r.length ≤ length blank
record_within {h} {d} {blank = blank} {t = t} x = omega (arith, x.size, (outcome_within h d t (length blank)).fits)
