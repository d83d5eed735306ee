-- Readers between two numbers, and how many there are.
use Prim.Native.Nat.{ℕ, ◌+◌, ◌≤◌, ◌<◌}
use native.Mathlib.Nat.{le_refl}
use native.Mathlib.Omega.{arith}
use mathlib.Core.Path.{◌≡◌, refl, sym, ◌∙◌}
use mathlib.Core.Logic.{⊎_elim}
use mathlib.Core.Bool.{Bool, true, false, not, ◌&&◌, ◌||◌, cond}
use mathlib.Core.List.Memᴰ
use mathlib.Core.List.{List, [], ◌∷◌, Memᴰ}
use lib.ListN.{length}
use lib.Dec.{leb, ltb}
use borrow.Author.Tests.{leb-true, leb-false, ltb-true, ltb-false, le-leb, lt-leb, lt-ltb, not-true}
use Rattle.model.specs.Sweeps.{is_read, is_clear}
use Rattle.model.proofs.Cases.{by_bool, true_false, and_left, and_right}

-- ---- what the tests say

or_last : (a : Bool) {b : Bool} → b ≡ true → (a || b) ≡ true
or_last true e = refl
or_last false e = e

pub reads : (lo hi t : ℕ) (ts : List ℕ) → Memᴰ t ts → lo ≤ t → t < hi → is_read lo hi ts ≡ true
unfolding is_read
reads lo hi t [] m p q = absurd (Memᴰ.not-nil m)
reads lo hi t (u ∷ ts) m p q =
    ⊎_elim
    (λ e. let s : t ≡ u = e in rw (le-leb lo u (omega arith), lt-ltb u hi (omega arith)))
    (λ n. or_last (leb lo u && ltb u hi) (reads lo hi t ts n p q))
    (Memᴰ.cases_cons m)

pub read_by {ℓ} : {P : Type ℓ} (lo hi : ℕ) (ts : List ℕ) → is_read lo hi ts ≡ true
    → ((t : ℕ) → Memᴰ t ts → lo ≤ t → t < hi → P) → P
unfolding is_read
read_by lo hi [] b f = true_false (sym b)
read_by lo hi (u ∷ ts) b f =
    by_bool (leb lo u && ltb u hi)
    (λ p. f u (Memᴰ.head refl) (leb-true _ _ (and_left (leb lo u) _ p)) (ltb-true _ _ (and_right (leb lo u) _ p)))
    (λ p. read_by lo hi ts (rw p at b) (λ t n. f t (Memᴰ.tail n)))

-- hi is at or below c, and who is at or above lo is at or above hi
abbrev pub Clear : (c : ℕ) → (readers : List ℕ) → (lo hi : ℕ) → Type 0
Clear c ts lo hi = (hi ≤ c) × ((t : ℕ) → Memᴰ t ts → lo ≤ t → hi ≤ t)

pub is_clear_lem : (c : ℕ) (ts : List ℕ) (lo hi : ℕ) → is_clear c ts lo hi ≡ true → Clear c ts lo hi
unfolding is_clear
is_clear_lem c ts lo hi e = (
  leb-true hi c (and_right (not (is_read lo hi ts)) (leb hi c) e),
  λ t m p. by_bool (leb hi t)
      (λ q. leb-true hi t q)
      (λ q. true_false
      (sym (reads lo hi t ts m p (leb-false hi t q)) ∙ not-true _ (and_left (not (is_read lo hi ts)) (leb hi c) e))),
)

pub clear_is : (c : ℕ) (ts : List ℕ) (lo hi : ℕ) → Clear c ts lo hi → is_clear c ts lo hi ≡ true
unfolding is_clear
clear_is c ts lo hi k =
    by_bool (is_read lo hi ts)
    (λ p. read_by lo hi ts p (λ t m l h. absurd (omega (arith, k.1 t m l))))
    (λ p. rw p (le-leb hi c k.0))

-- ---- how many readers are at or above lo

unfoldable pub readers_from : (lo : ℕ) → List ℕ → ℕ
readers_from lo [] = 0
readers_from lo (t ∷ ts) = cond (leb lo t) 1 0 + readers_from lo ts

pub readers_few : (lo : ℕ) (ts : List ℕ) → readers_from lo ts ≤ length ts
unfolding readers_from
readers_few lo [] = le_refl 0
readers_few lo (t ∷ ts) =
    let i = readers_few lo ts in
    by_bool (leb lo t) (λ p. rw p (omega arith)) (λ p. rw p (omega arith))

-- fewer are at or above a larger number, by one if some reader is between
pub readers_up : (lo hi : ℕ) (ts : List ℕ) → lo ≤ hi → cond (is_read lo hi ts) 1 0 + readers_from hi ts ≤ readers_from lo ts
unfolding readers_from is_read
readers_up lo hi [] h = le_refl 0
readers_up lo hi (t ∷ ts) h =
    let i = readers_up lo hi ts h in
    by_bool (leb lo t)
    (λ p. by_bool (ltb t hi)
    (λ q. rw (p, q, lt-leb hi t (ltb-true _ _ q)) (omega arith))
    (λ q. rw (p, q, le-leb hi t (ltb-false _ _ q)) (omega arith)))
    (λ p. rw (p, lt-leb hi t (omega (arith, leb-false lo t p))) (omega arith))
