-- A chain whose older versions are trimmed: what they are, and that its newest stays.
-- Assumes nothing.
use mathlib.Core.Path.{◌≡◌, refl, sym, ap, ◌∙◌}
use mathlib.Core.Bool.{true, false}
use mathlib.Core.List.{List, [], ◌∷◌, ◌++◌}
use Prim.Native.Nat.{ℕ, suc, ◌-◌, ◌≤◌, ◌<◌}
use native.Mathlib.Omega.{arith}
use lib.ListN.{length}
use Rattle.model.specs.State.{Version, Chain, Entry}
use Rattle.model.specs.Sweeps.{Rule}
use Rattle.model.proofs.Cases.{by_bool}
use Rattle.model_laws.proofs.Sound.{NonEmpty}
use Rattle.hall.specs.Layout.{older, latest, newests_of}
use Rattle.hall.specs.Tables.{version_at, between}
use Rattle.hall.proofs.Laws.Halls.{older_latest, length_older, length_latest, older_more, latest_more}
use Rattle.hall.proofs.Laws.Chains.{between_none, between_cons}
use Rattle.hall_rule.specs.Older.{successor}
use Rattle.hall_trim.specs.Trim.{kept, trim_older, trim_olders}

module _ (g : Rule) (n : Version) where
  pub kept_short : (vs : List Version) → length (kept g vs n) ≤ length vs
  unfolding kept
  kept_short [] = omega arith
  kept_short (v ∷ vs) =
      let k = kept_short vs in
      by_bool (g v (successor vs n ∷ [])) (λ p. rw p (omega arith)) (λ p. rw p (omega arith))

  module _ (j to : ℕ) (vs : List Version) where
    pub kept_none : to ≤ j → kept g (between j to vs) n ≡ []
    unfolding kept
    kept_none h = rw (between_none j to vs h)

    module _ (h : j < to) (l : to ≤ length vs) where
      pub kept_goes : g (version_at j vs) (successor (between (suc j) to vs) n ∷ []) ≡ true
          → kept g (between j to vs) n ≡ kept g (between (suc j) to vs) n
      unfolding kept
      kept_goes p = rw (between_cons j to vs h l, p)

      pub kept_stays : g (version_at j vs) (successor (between (suc j) to vs) n ∷ []) ≡ false
          → kept g (between j to vs) n ≡ version_at j vs ∷ kept g (between (suc j) to vs) n
      unfolding kept
      kept_stays p = rw (between_cons j to vs h l, p)

-- ---- a chain with a version

one_only : (l : Chain) → length l ≡ 1 → l ≡ version_at 0 l ∷ []
one_only [] e = absurd (omega arith)
one_only (v ∷ []) e = refl
one_only (v ∷ w ∷ l) e = absurd (omega arith)

pub chain_is : (l : Chain) → 1 ≤ length l → l ≡ older l ++ version_at 0 (latest l) ∷ []
chain_is l h = sym (older_latest l) ∙ ap (λ (x : Chain). older l ++ x) (one_only (latest l) (length_latest l h))

module _ (g : Rule) where
  module _ (l : Chain) (n : Version) (e : l ≡ older l ++ n ∷ []) where
    latest_is : latest l ≡ n ∷ []
    latest_is = ap latest e ∙ latest_more (older l) n

    pub trimmed_is : trim_older g l ≡ kept g (older l) n ++ n ∷ []
    unfolding trim_older
    trimmed_is = ap (λ (x : Chain). kept g (older l) (version_at 0 x) ++ x) latest_is

    pub older_trimmed : older (trim_older g l) ≡ kept g (older l) n
    older_trimmed = ap older trimmed_is ∙ older_more (kept g (older l) n) n

    pub older_left : length (trim_older g l) - 1 ≡ length (kept g (older l) n)
    older_left = sym (length_older (trim_older g l)) ∙ ap length older_trimmed

    pub latest_trimmed : latest (trim_older g l) ≡ n ∷ []
    latest_trimmed = ap latest trimmed_is ∙ latest_more (kept g (older l) n) n

    latest_same : latest (trim_older g l) ≡ latest l
    latest_same = latest_trimmed ∙ sym latest_is

  -- the newest versions stay
  pub newests_trimmed : (es : List Entry) → NonEmpty es → newests_of (trim_olders g es) ≡ newests_of es
  unfolding newests_of trim_olders
  newests_trimmed [] f = refl
  newests_trimmed (e ∷ es) f =
      let l : Chain = e.chain in
      rw (latest_same l (version_at 0 (latest l)) (chain_is l f.0), newests_trimmed es f.1)

  pub length_trimmed : (es : List Entry) → length (trim_olders g es) ≡ length es
  unfolding trim_olders
  length_trimmed [] = refl
  length_trimmed (e ∷ es) = rw (length_trimmed es)
