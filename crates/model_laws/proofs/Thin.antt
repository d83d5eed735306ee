-- Sweeps in the words of their rule: what is thinned out and what is buried, who can't tell, and how much is left.
use Prim.Native.Nat.{ℕ, suc, ◌≤◌, min}
use native.Mathlib.Nat.{le_refl}
use native.Mathlib.Omega.{arith}
use mathlib.Core.Path.{◌≡◌, refl, sym, ap, ◌∙◌}
use mathlib.Core.Logic.{◌⊎◌, ⊎_elim}
use mathlib.Core.Bool.{true, false, not, ◌&&◌}
use mathlib.Core.List.{List, [], ◌∷◌, Memᴰ}
use lib.ListN.{length}
use lib.Dec.{leb}
use borrow.Author.Tests.{leb-true, leb-false, le-leb, lt-leb}
use Rattle.model.specs.State.{Version, Chain, is_deletion, visible, newest_of, value_of}
use Rattle.model.specs.Sweeps.{is_read, is_clear, is_covered, goes, trim}
use Rattle.model.specs.Calls.{above}
use Rattle.model.specs.History.{Rising}
use Rattle.model.specs.Demands.{thin_out, bury}
use Rattle.model.proofs.Cases.{by_bool, true_false, and_left, and_right, and_false, and_swap, is_deletion_lem}
use Rattle.model_laws.proofs.Chains.{rising_le, Like, like_refl, like_trans, covered_same, deleted_like}
use Rattle.model_laws.proofs.Trim.{Spares, length_trim}
use Rattle.model_laws.proofs.Readers.{Clear, is_clear_lem, clear_is, readers_from, readers_few, readers_up}

module _ (c : ℕ) (ts : List ℕ) where
  -- ---- the rule and its words

  goes_covered : (v : Version) (vs : Chain) → is_covered c ts v vs ≡ true → goes c ts v vs ≡ true
  unfolding goes
  goes_covered v vs p = rw p

  goes_uncovered : (v : Version) (vs : Chain) → is_covered c ts v vs ≡ false
      → goes c ts v vs ≡ (is_deletion v.payload && is_clear c ts 0 v.number)
  unfolding goes
  goes_uncovered v vs p = rw p

  clear_words : (lo hi : ℕ) → (leb hi c && not (is_read lo hi ts)) ≡ is_clear c ts lo hi
  unfolding is_clear
  clear_words lo hi = and_swap (leb hi c) (not (is_read lo hi ts))

  thin_nil : thin_out c ts [] ≡ []
  unfolding thin_out
  thin_nil = refl

  thin_covered : (v : Version) (vs : Chain) → is_covered c ts v vs ≡ true → thin_out c ts (v ∷ vs) ≡ thin_out c ts vs
  unfolding thin_out is_covered
  thin_covered v [] p = true_false (sym p)
  thin_covered v (w ∷ ws) p = rw (clear_words v.number w.number ∙ p)

  thin_uncovered : (v : Version) (vs : Chain) → is_covered c ts v vs ≡ false → thin_out c ts (v ∷ vs) ≡ v ∷ thin_out c ts vs
  unfolding thin_out is_covered
  thin_uncovered v [] p = refl
  thin_uncovered v (w ∷ ws) p = rw (clear_words v.number w.number ∙ p)

  -- the oldest would not go as a deletion
  abbrev Fresh : Chain → Type 0
  Fresh [] = Unit {0}
  Fresh (v ∷ vs) = Clear c ts 0 v.number → ⊥

  -- nor then would a later one, nor one after a version that is not covered
  fresh_next : (n hi : ℕ) (vs : Chain) → (Clear c ts 0 n → ⊥) → Rising n hi vs → Fresh vs
  fresh_next n hi [] f r = tt
  fresh_next n hi (w ∷ ws) f r = λ k. f (omega (arith, k.0, r.0), λ t m p. omega (arith, k.1 t m p, r.0))

  fresh_after : (v : Version) (vs : Chain) → is_covered c ts v vs ≡ false → Fresh vs
  unfolding is_covered
  fresh_after v [] p = tt
  fresh_after v (w ∷ ws) p =
      λ k. true_false (sym (clear_is c ts v.number w.number (k.0, λ t m q. k.1 t m (omega arith))) ∙ p)

  -- without such deletions there is only thinning
  fresh_thin : (lo hi : ℕ) (l : Chain) → Rising lo hi l → Fresh l → trim (goes c ts) l ≡ thin_out c ts l
  unfolding trim
  fresh_thin lo hi [] r f = sym thin_nil
  fresh_thin lo hi (v ∷ vs) r f =
      let i = fresh_thin v.number hi vs r.1 (fresh_next v.number hi vs f r.1) in
      by_bool (is_covered c ts v vs)
      (λ p. rw (goes_covered v vs p, thin_covered v vs p) i)
      (λ p.
      let n : is_clear c ts 0 v.number ≡ false =
      by_bool (is_clear c ts 0 v.number) (λ q. absurd (f (is_clear_lem c ts 0 v.number q))) (λ q. q) in
      rw (goes_uncovered v vs p, n, ← and_false (is_deletion v.payload), thin_uncovered v vs p) (ap (λ x. v ∷ x) i))

  -- a sweep leaves what the two sentences keep
  pub trim_thin : (lo hi : ℕ) (l : Chain) → Rising lo hi l → trim (goes c ts) l ≡ bury c ts (thin_out c ts l)
  unfolding trim bury
  trim_thin lo hi [] r = ap (bury c ts) (sym thin_nil)
  trim_thin lo hi (v ∷ vs) r =
      by_bool (is_covered c ts v vs)
      (λ p. rw (goes_covered v vs p, thin_covered v vs p) (trim_thin v.number hi vs r.1))
      (λ p. rw (
        goes_uncovered v vs p,
        thin_uncovered v vs p,
        fresh_thin v.number hi vs r.1 (fresh_after v vs p),
        clear_words 0 v.number,
      ))

  -- ---- who can't tell: the readers, and the numbers from c on

  module _ (t : ℕ) (s : Memᴰ t ts ⊎ (c ≤ t)) where
    clear_spared : (lo hi : ℕ) → is_clear c ts lo hi ≡ true → lo ≤ t → hi ≤ t
    clear_spared lo hi e p =
        let k = is_clear_lem c ts lo hi e in
        ⊎_elim (λ m. k.1 t m p) (λ h. omega (arith, k.0)) s

    next_same : (v : Version) (vs : Chain) → is_covered c ts v vs ≡ true
        → (visible t vs ≡ visible t (v ∷ vs)) × (newest_of vs ≡ newest_of (v ∷ vs))
    unfolding is_covered
    next_same v [] p = true_false (sym p)
    next_same v (w ∷ ws) p = covered_same t v w ws (clear_spared v.number w.number p)

    thin_same : (l : Chain) → (visible t (thin_out c ts l) ≡ visible t l) × (newest_of (thin_out c ts l) ≡ newest_of l)
    unfolding visible newest_of
    thin_same [] = rw thin_nil (refl, refl)
    thin_same (v ∷ vs) =
        let i = thin_same vs in
        by_bool (is_covered c ts v vs)
        (λ p. let e = next_same v vs p in rw (thin_covered v vs p) (i.0 ∙ e.0, i.1 ∙ e.1))
        (λ p. rw (thin_uncovered v vs p, i.0, i.1) (refl, refl))

    bury_like : (l : Chain) → Like t (bury c ts l) l
    unfolding bury
    bury_like [] = like_refl t []
    bury_like (v ∷ vs) =
        let d = is_deletion v.payload in
        rw (clear_words 0 v.number)
        (by_bool (d && is_clear c ts 0 v.number)
        (λ p. rw p
        (deleted_like t v vs (is_deletion_lem v.payload (and_left d _ p))
        (clear_spared 0 v.number (and_right d _ p) (omega arith))))
        (λ p. rw p (like_refl t (v ∷ vs))))

    pub goes_spares : Spares (goes c ts) t
    goes_spares lo hi l r =
        let e = thin_same l in
        let m = thin_out c ts l in
        rw (trim_thin lo hi l r)
        (like_trans t (bury c ts m) m l (bury_like m) (ap value_of e.0, ap (above t) e.1))

  -- ---- how much is left

  -- each version but the last has a reader of its own
  few_thin : (hi : ℕ) (v : Version) (vs : Chain) → hi ≤ c → Rising v.number hi vs
      → length (thin_out c ts (v ∷ vs)) ≤ suc (readers_from v.number ts)
  unfolding thin_out
  few_thin hi v [] h r = omega arith
  few_thin hi v (w ∷ ws) h r =
      let i = few_thin hi w ws h r.1 in
      let n = readers_up v.number w.number ts (omega (arith, r.0)) in
      let q = le-leb w.number c (omega (arith, rising_le w.number hi ws r.1)) in
      by_bool (is_read v.number w.number ts)
      (λ p. rw (q, p) (omega (arith, i, rw p at n)))
      (λ p. rw (q, p) (omega (arith, i, rw p at n)))

  bury_few : (l : Chain) → length (bury c ts l) ≤ length l
  unfolding bury
  bury_few [] = le_refl _
  bury_few (v ∷ vs) =
      by_bool (is_deletion v.payload && (leb v.number c && not (is_read 0 v.number ts)))
      (λ p. rw p (omega arith))
      (λ p. rw p (le_refl _))

  pub few_left : (lo hi : ℕ) (l : Chain) → hi ≤ c → Rising lo hi l → length (trim (goes c ts) l) ≤ suc (length ts)
  few_left lo hi [] h r = omega (arith, length_trim (goes c ts) [])
  few_left lo hi (v ∷ vs) h r =
      rw (trim_thin lo hi (v ∷ vs) r)
      (omega (arith, bury_few (thin_out c ts (v ∷ vs)), few_thin hi v vs h r.1, readers_few v.number ts))

-- ---- a limit above all numbers is as good as the highest

leb_min : (n x hi : ℕ) → n ≤ hi → leb n (min x hi) ≡ leb n x
leb_min n x hi h =
    by_bool (leb n x)
    (λ p. rw (p, le-leb n (min x hi) (omega (arith, leb-true n x p))))
    (λ p. rw (p, lt-leb n (min x hi) (omega (arith, leb-false n x p))))

goes_limit : (x : ℕ) (ts : List ℕ) (hi : ℕ) (v : Version) (vs : Chain) → Rising v.number hi vs
    → goes (min x hi) ts v vs ≡ goes x ts v vs
unfolding goes is_covered is_clear
goes_limit x ts hi v [] r = rw (leb_min v.number x hi r)
goes_limit x ts hi v (w ∷ ws) r =
    let h = rising_le w.number hi ws r.1 in
    rw (leb_min w.number x hi h, leb_min v.number x hi (omega (arith, r.0)))

pub trim_limit : (x : ℕ) (ts : List ℕ) (lo hi : ℕ) (l : Chain) → Rising lo hi l
    → trim (goes (min x hi) ts) l ≡ trim (goes x ts) l
unfolding trim
trim_limit x ts lo hi [] r = refl
trim_limit x ts lo hi (v ∷ vs) r = rw (goes_limit x ts hi v vs r.1, trim_limit x ts v.number hi vs r.1)
