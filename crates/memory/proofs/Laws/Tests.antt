-- Tests that code makes one by one: of a list of tests, and of every row of a table.
-- Assumes nothing.
use mathlib.Core.Path.{◌≡◌, refl, sym, ◌∙◌}
use mathlib.Core.Bool.{Bool, true, false, not, and-false}
use mathlib.Core.List.{List, [], ◌∷◌}
use mathlib.Core.Logic.{⊎_elim}
use Prim.Native.Nat.{ℕ, zero, suc, ◌+◌, ◌≤◌, ◌<◌}
use native.Mathlib.Nat.{eq-or-lt_of_le, le_of_suc-le-suc, not-suc-le-zero}
use native.Mathlib.Numerals.{add-one}
use native.Mathlib.Omega.{arith}
use borrow.Author.Tests.{not-true, not-false}
use lib.ListN.{get_or}
use Rattle.model.specs.Sound.{every}
use Rattle.model.proofs.Cases.{true_false, and_intro}
use Rattle.memory.specs.Tests.{all_below}
use Rattle.memory.proofs.Laws.Numbers.{both_true}

-- ---- what a function answered, tested as `if !f(..)`

pub refused : {r s : Bool} → r ≡ s → not r ≡ true → s ≡ false
refused {r} e t = sym e ∙ not-true r t

pub passed : {r s : Bool} → r ≡ s → not r ≡ false → s ≡ true
passed {r} e t = sym e ∙ not-false r t

-- ---- two tests, and a list of tests

-- each implies the other
pub same_test : (a b : Bool) → (a ≡ true → b ≡ true) → (b ≡ true → a ≡ true) → a ≡ b
same_test true b f g = sym (f refl)
same_test false true f g = g refl
same_test false false f g = refl

-- a test that fails where the other does
pub fails_too : {a b : Bool} → (b ≡ true → a ≡ true) → a ≡ false → false ≡ b
fails_too {b = true} f e = true_false (sym (f refl) ∙ e)
fails_too {b = false} f e = refl

pub every_fails : (bs : List Bool) (k : ℕ) → get_or bs k true ≡ false → false ≡ every bs
unfolding every
every_fails [] k e = sym e
every_fails (b ∷ bs) zero e = rw e
every_fails (b ∷ bs) (suc k) e = rw (← every_fails bs k e) (sym (and-false b))

-- ---- every row: a loop that counts up and leaves at the first row that fails

module _ (p : ℕ → Bool) where
  pub all_at : (n i : ℕ) → all_below n p ≡ true → i < n → p i ≡ true
  unfolding all_below
  all_at zero i h l = absurd (not-suc-le-zero l)
  all_at (suc n) i h l =
      let s = both_true (all_below n p) (p n) h in
      ⊎_elim (λ e. rw e s.1) (λ k. all_at n i s.0 k) (eq-or-lt_of_le (le_of_suc-le-suc l))

  pub all_of : (n : ℕ) → ((i : ℕ) → i < n → p i ≡ true) → all_below n p ≡ true
  unfolding all_below
  all_of zero f = refl
  all_of (suc n) f = and_intro (all_of n (λ i h. f i (omega arith))) (f n (omega arith))

  pub all_none : all_below 0 p ≡ true
  unfolding all_below
  all_none = refl

  pub all_fails : {r : Bool} (i n : ℕ) → i < n → r ≡ p i → not r ≡ true → false ≡ all_below n p
  all_fails i n h e t = fails_too (λ a. all_at n i a h) (refused e t)

  pub all_more : {r : Bool} (i : ℕ) → all_below i p ≡ true → r ≡ p i → not r ≡ false → all_below (i + 1) p ≡ true
  unfolding all_below
  all_more i a e t = rw (add-one, a) (passed e t)

  pub all_end : {n : ℕ} (i : ℕ) → all_below i p ≡ true → i ≤ n → n ≤ i → true ≡ all_below n p
  all_end {n} i a h k =
      let e : n ≡ i = omega arith in
      rw e (sym a)
