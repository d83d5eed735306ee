-- What a commit answers: its number is not zero, and a conflict lists some key.
-- Assumes nothing.
use Prim.Native.Nat.{ℕ, ◌<◌}
use native.Mathlib.Omega.{arith}
use mathlib.Core.Path.{refl, sym, subst}
use mathlib.Core.List.{[], ◌∷◌}
use Rattle.std.specs.Prelude.{Option}
use lib.ListN.{length}
use Rattle.model.specs.Bytes.{Bytes}
use Rattle.model.specs.State.{Hall, Writes}
use Rattle.model.specs.Calls as calls
use Rattle.model.specs.Calls.{Clashes, Answer, refused, conflict, faulty, began, found, done, closed, swept, thinned, counted, dumped, replayed, on, commit_to, Outcome, settle, act, decide}
use Rattle.model.proofs.Cases.{by_bool}
use Rattle.model_laws.proofs.Effects.{checked}
use Rattle.answers.specs.declared.Committed.{Committed}
use Rattle.answers.specs.declared.Committed.TheVariants.{As, Closed, Conflict, Refused}
use Rattle.bridge.specs.Store.{looks_at_desks, answer_on, are_sound}
use Rattle.bridge.proofs.Laws.Memories.{sound_of, outcome_unsound, outcome_sound}
use Rattle.bridge.specs.Clauses.{clashes_on, Committing}
use Rattle.boundary.specs.Boundary.{Positive}

-- ---- in the model

abbrev Filled : Answer → Type 0
Filled (refused n) = Unit {0}
Filled (conflict cs) = 0 < length cs
Filled (faulty n at) = Unit {0}
Filled (began t d) = Unit {0}
Filled (found k) = Unit {0}
Filled done = Unit {0}
Filled (calls.committed n) = 0 < n
Filled closed = Unit {0}
Filled (swept c d) = Unit {0}
Filled (thinned d) = Unit {0}
Filled (counted k v d) = Unit {0}
Filled (dumped n) = Unit {0}
Filled (replayed n) = Unit {0}

settle_filled : (h : Hall) (j : Option ℕ) (t : ℕ) (ws : Writes) (cs : Clashes) → Filled (settle h j t ws cs).answer
unfolding settle
settle_filled h j t [] cs = tt
settle_filled h j t (w ∷ ws) (c ∷ cs) = omega arith
settle_filled h j t (w ∷ ws) [] =
    checked (λ o. Filled o.answer) (λ n. tt) _ _
    (λ a. checked (λ o. Filled o.answer) (λ n. tt) _ _ (λ b. omega arith))

filled : (j : Option ℕ) (h d : Bytes) (t : ℕ) → Filled (answer_on h d (on t (commit_to j)))
unfolding decide act looks_at_desks
filled j h d t =
    by_bool (are_sound h d)
    (λ p. subst (λ (x : Outcome). Filled x.answer) (sym (outcome_sound h d (sound_of h d p) (on t (commit_to j))))
    (checked (λ o. Filled o.answer) (λ n. tt) _ _ (λ a. settle_filled _ j t _ _)))
    (λ p. subst (λ (x : Outcome). Filled x.answer) (sym (outcome_unsound h d (on t (commit_to j)) refl p)) tt)

-- ---- over the call

pub positive : (j : Option ℕ) {h d h' d' out out' : Bytes} {t : ℕ} (a : Committed) → Committing j h d h' d' out out' t a → Positive a
positive j {h} {d} {t = t} (As n) k = subst Filled (sym k.called.answer) (filled j h d t)
positive j Closed k = tt
positive j {h} {d} {t = t} (Conflict n) k =
    let l : 0 < length (clashes_on j h d t) = subst Filled (sym k.called.answer) (filled j h d t) in omega (arith, l, k.count)
positive j (Refused r) k = tt
