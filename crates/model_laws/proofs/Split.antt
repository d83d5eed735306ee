-- A chain as its older versions and its newest: what a rule leaves of each.
use Prim.Native.Nat.{ℕ}
use mathlib.Core.Path.{◌≡◌, refl, ap, ◌∙◌}
use mathlib.Core.Bool.{true, cond}
use mathlib.Core.List.{List, [], ◌∷◌, ◌++◌}
use Rattle.std.specs.Prelude.{Some}
use Rattle.model.specs.State.{Version, Chain, newest_of}
use Rattle.model.specs.Sweeps.{Rule, is_covered, goes, trim}
use Rattle.model.specs.History.{Rising}
use Rattle.model.proofs.Cases.{by_bool}
use Rattle.model_laws.proofs.Chains.{newest_append}
use Rattle.model_laws.proofs.Gone.{newest_goes, chain_gone}

-- what a rule leaves of the older versions of a chain whose newest is n
unfoldable pub olders : Rule → (older : Chain) → (newest : Version) → Chain
olders g [] n = []
olders g (v ∷ vs) n = cond (g v (vs ++ n ∷ [])) (olders g vs n) (v ∷ olders g vs n)

pub trim_split : (g : Rule) (vs : Chain) (n : Version)
    → trim g (vs ++ n ∷ []) ≡ olders g vs n ++ cond (g n []) [] (n ∷ [])
unfolding trim olders
trim_split g [] n = refl
trim_split g (v ∷ vs) n =
    let i = trim_split g vs n in
    by_bool (g v (vs ++ n ∷ [])) (λ p. rw p i) (λ p. rw p (ap (λ (l : Chain). v ∷ l) i))

-- both sweeps look at a version's successor and no further
pub goes_next : (c : ℕ) (ts : List ℕ) (v w : Version) (ws : Chain) → goes c ts v (w ∷ ws) ≡ goes c ts v (w ∷ [])
unfolding goes is_covered
goes_next c ts v w ws = refl

newest_last : (vs : Chain) (n : Version) → newest_of (vs ++ n ∷ []) ≡ Some n
unfolding newest_of
newest_last vs n = newest_append vs (n ∷ [])

-- the key's row goes exactly if its newest version does
pub row_goes : (c : ℕ) (ts : List ℕ) (lo hi : ℕ) (vs : Chain) (n : Version) → Rising lo hi (vs ++ n ∷ [])
    → goes c ts n [] ≡ true → trim (goes c ts) (vs ++ n ∷ []) ≡ []
row_goes c ts lo hi vs n r p = chain_gone c ts lo hi (vs ++ n ∷ []) r (ap (newest_goes (goes c ts)) (newest_last vs n) ∙ p)
