-- The occupied desks as bits: what the machine's operations on them say of the desks.
-- Assumes nothing.
use mathlib.Core.Path.{◌≡◌, refl, ◌∙◌}
use mathlib.Core.Bool.{cond}
use mathlib.Core.List.{List, [], ◌∷◌}
use Rattle.std.specs.Prelude.{None, Some}
use Prim.Native.Nat.{ℕ, zero, suc, ◌+◌, ◌-◌, ◌*◌, ◌/◌, ◌%◌, ◌^◌, ◌≤◌, ◌<◌}
use native.Mathlib.Nat.{pow-suc, one-mul, mod-eq_of_lt, le_of_suc-le-suc, not-suc-le-zero}
use native.Mathlib.Omega.{arith}
use lib.Dec.{ltb, leb-suc-zero, leb-suc-suc}
use borrow.Author.Tests.{lt-ltb}
use lib.ListN.{length, set}
use lib.Pow.{pow_pos, pow-lt}
use lib.Bits.{bit_and, bit_or, or_step, and_step, or_zero_r, and_mask}
use lib.Count.{ones, ones_step, count_trailing_zeros}
use Rattle.model.specs.State.{Transaction, Desk, free, taken, open_desks, free_desk}
use Rattle.model.proofs.Cases.{by_bool}
use Rattle.desk.specs.Layout.{occupied}
use Rattle.desk.specs.Shape.{bit}

pub bit_lt : (d : Desk) → bit d < 2
bit_lt free = omega arith
bit_lt (taken x) = omega arith

pub occupied_cons : (d : Desk) (ds : List Desk) → occupied (d ∷ ds) ≡ bit d + 2 * occupied ds
unfolding occupied
occupied_cons free ds = omega arith
occupied_cons (taken x) ds = refl

pub occupied_low : (d : Desk) (ds : List Desk) → occupied (d ∷ ds) % 2 ≡ bit d
occupied_low d ds = rw occupied_cons (omega (arith, bit_lt d))

pub occupied_high : (d : Desk) (ds : List Desk) → occupied (d ∷ ds) / 2 ≡ occupied ds
occupied_high d ds = rw occupied_cons (omega (arith, bit_lt d))

-- k bits are enough for so many desks
pub occupied_lt : (ds : List Desk) (k : ℕ) → length ds ≤ k → occupied ds < 2 ^ k
unfolding occupied
occupied_lt [] k h = pow_pos k
occupied_lt (d ∷ ds) zero h = absurd (not-suc-le-zero h)
occupied_lt (d ∷ ds) (suc k) h =
    rw occupied_cons (omega (arith, bit_lt d, occupied_lt ds k (le_of_suc-le-suc h), pow-suc 2 k))

-- ---- how many are taken

pub ones_open : (ds : List Desk) → ones (occupied ds) ≡ open_desks ds
unfolding occupied open_desks ones
ones_open [] = refl
ones_open (free ∷ ds) =
    ones_step (occupied (free ∷ ds)) ∙ rw (occupied_low, occupied_high) (omega (arith, ones_open ds))
ones_open (taken x ∷ ds) = ones_step (occupied (taken x ∷ ds)) ∙ rw (occupied_low (taken x) ds, occupied_high (taken x) ds) (omega (arith, ones_open ds))

-- ---- a bit set, a bit cleared

pub or_taken : (ds : List Desk) (d : ℕ) (y : Transaction) → d < length ds → bit_or (occupied ds) (2 ^ d) ≡ occupied (set ds d (taken y))
or_taken [] d y h = absurd (not-suc-le-zero h)
or_taken (x ∷ ds) zero y h =
    or_step (occupied (x ∷ ds)) 1 ∙ rw (occupied_high, occupied_low, or_zero_r, occupied_cons) (omega (arith, bit_lt x))
or_taken (x ∷ ds) (suc d) y h =
    let g : 2 ^ suc d / 2 ≡ 2 ^ d = omega arith in
    let o : 2 ^ suc d % 2 ≡ 0 = omega arith in
    or_step (occupied (x ∷ ds)) (2 ^ suc d)
    ∙ rw (occupied_high x ds, occupied_low x ds, g, o, or_taken ds d y (le_of_suc-le-suc h), occupied_cons x (set ds d (taken y))) (omega arith)

-- a mask of ones but for one: its last bit, and the others
first_out : (p q : ℕ) → q ≡ 2 * p → 0 < p → ((q - 1 - 1) / 2 ≡ p - 1) × ((q - 1 - 1) % 2 ≡ 0)
first_out p q e h = (omega arith, omega arith)

later_out : (p q n m : ℕ) → q ≡ 2 * p → m ≡ 2 * n → n < p → ((q - 1 - m) / 2 ≡ p - 1 - n) × ((q - 1 - m) % 2 ≡ 1)
later_out p q n m e f h = (omega arith, omega arith)

pub and_free : (ds : List Desk) (k d : ℕ) → length ds ≤ k → d < length ds → bit_and (occupied ds) (2 ^ k - 1 - 2 ^ d) ≡ occupied (set ds d free)
and_free [] k d l h = absurd (not-suc-le-zero h)
and_free (x ∷ ds) zero d l h = absurd (not-suc-le-zero l)
and_free (x ∷ ds) (suc k) zero l h =
    let g = first_out _ (2 ^ suc k) (omega arith) (pow_pos k) in
    and_step (occupied (x ∷ ds)) _
    ∙ rw (
      occupied_high,
      occupied_low,
      g.0,
      g.1,
      and_mask (occupied ds) k,
      mod-eq_of_lt (occupied_lt ds k (le_of_suc-le-suc l)),
      occupied_cons free ds,
    ) (omega arith)
and_free (x ∷ ds) (suc k) (suc d) l h =
    let below : d < length ds = le_of_suc-le-suc h in
    let g = later_out (2 ^ k) (2 ^ suc k) (2 ^ d) (2 ^ suc d) (omega (arith, pow-suc 2 k)) (omega (arith, pow-suc 2 d)) (pow-lt (omega arith)) in
    and_step (occupied (x ∷ ds)) (2 ^ suc k - 1 - 2 ^ suc d)
    ∙ rw (occupied_high x ds, occupied_low x ds, g.0, g.1, and_free ds k d (le_of_suc-le-suc l) below, occupied_cons x (set ds d free)) (omega (arith, bit_lt x))

-- what the machine gives for `1 << d`
pub one_shl : (k d : ℕ) → d < k → 1 * 2 ^ d % 2 ^ k ≡ 2 ^ d
one_shl k d l = rw one-mul (mod-eq_of_lt (pow-lt l))

-- ---- the lowest free desk is the trailing zeros of the complement

-- what the machine gives for the complement, in k bits
abbrev first : (k : ℕ) → List Desk → ℕ
first k ds = count_trailing_zeros k (2 ^ k - 1 - occupied ds)

-- a complement in one bit more: its last bit, and the others
even_out : (p q o : ℕ) → q ≡ 2 * p → o < p → ((q - 1 - (1 + 2 * o)) % 2 ≡ 0) × ((q - 1 - (1 + 2 * o)) / 2 ≡ p - 1 - o)
even_out p q o e h = (omega arith, omega arith)

module _ (k : ℕ) (ds : List Desk) (h : length ds ≤ k) where
  twice : 2 ^ suc k ≡ 2 * 2 ^ k
  twice = omega arith

  first_here : first (suc k) (free ∷ ds) ≡ 0
  unfolding occupied count_trailing_zeros
  first_here = rw (later_out (2 ^ k) (2 ^ suc k) (occupied ds) (2 * occupied ds) twice refl (occupied_lt ds k h)).1

  first_later : (x : Transaction) → first (suc k) (taken x ∷ ds) ≡ suc (first k ds)
  unfolding occupied count_trailing_zeros
  first_later x = let e = even_out _ _ _ twice (occupied_lt ds k h) in rw (e.0, e.1)

pub first_free : (k : ℕ) (ds : List Desk) → length ds ≤ k → free_desk ds ≡ cond (ltb (first k ds) (length ds)) (Some (first k ds)) None
unfolding free_desk
first_free k [] l = rw leb-suc-zero
first_free zero (x ∷ ds) l = absurd (not-suc-le-zero l)
first_free (suc k) (free ∷ ds) l = rw (first_here k ds (le_of_suc-le-suc l), lt-ltb 0 (suc (length ds)) (omega arith))
first_free (suc k) (taken x ∷ ds) l =
    rw (first_later k ds (le_of_suc-le-suc l) x, leb-suc-suc, first_free k ds (le_of_suc-le-suc l))
    (by_bool (ltb (first k ds) (length ds)) (λ p. rw p) (λ p. rw p))
