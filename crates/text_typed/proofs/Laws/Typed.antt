-- Runs of blanks and of other bytes, walked byte by byte; words compared letter by letter.
-- Assumes nothing.
use mathlib.Core.Path.{◌≡◌, refl, ◌∙◌}
use mathlib.Core.Bool.{Bool, true, false, not, ◌&&◌, cond}
use mathlib.Core.List.{[], ◌∷◌}
use Prim.Native.Nat.{ℕ, zero, suc, ◌+◌, ◌-◌, ◌≤◌, ◌<◌}
use native.Mathlib.Numerals.{add-one}
use native.Mathlib.Omega.{arith}
use borrow.Author.Tests.{eq-eqb, ne_eqb, not-true, not-false}
use lib.Dec.{eqb}
use lib.ListN.{length, drop, get_or, drop_of_length-le}
use lib.Seq.{drop-cons}
use Rattle.model.specs.Bytes.{Bytes}
use Rattle.model.specs.Sound.{within}
use Rattle.model.proofs.Cases.{by_bool, within_le, le_within}
use Rattle.text_typed.specs.Typed.{is_blank, is_kind, run, word_end, line_end, carriage_return, lower, says, Run, Cut}

-- ---- a run, whose first i bytes are counted

run_within : (k : Bool) (s : Bytes) → run k s ≤ length s
unfolding run
run_within k [] = omega arith
run_within k (c ∷ s) = by_bool (is_kind k c) (λ e. rw e (omega (arith, run_within k s))) (λ e. rw e (omega arith))

module _ (k : Bool) (s : Bytes) (i : ℕ) (v : run k s ≡ i + run k (drop i s)) where
  counted : run k (drop i s) ≡ 0 → Run k s i
  counted e = record { count = omega arith; within = omega (arith, run_within k s) }

  step : i < length s → run k (drop i s) ≡ cond (is_kind k (get_or s i 0)) (suc (run k (drop (i + 1) s))) 0
  unfolding run
  step h = rw (add-one, drop-cons s i 0 h)

  pub run_stops : (r : Bool) → i < length s → r ≡ is_kind k (get_or s i 0) → not r ≡ true → Run k s i
  run_stops r h e f = counted (rw (step h, ← e, not-true r f))

  pub run_on : (r : Bool) → i < length s → r ≡ is_kind k (get_or s i 0) → not r ≡ false → run k s ≡ i + 1 + run k (drop (i + 1) s)
  run_on r h e f = rw (v, step h, ← e, not-false r f) (omega arith)

  pub run_ends : length s ≤ i → Run k s i
  unfolding run
  run_ends h = counted (rw (drop_of_length-le s h))

-- ---- where a line ends, and its last word

pub line_empty : (s : Bytes) → length s ≡ 0 → Cut (line_end s) s 0
unfolding line_end
line_empty [] h = record { end = refl; within = omega arith }
line_empty (c ∷ s) h = absurd (omega arith)

module _ (s : Bytes) where
  pub line_cut : get_or s (length s - 1) 0 ≡ carriage_return → Cut (line_end s) s (length s - 1)
  unfolding line_end
  line_cut e = record { end = rw (eq-eqb _ _ e); within = omega arith }

  pub line_whole : (get_or s (length s - 1) 0 ≡ carriage_return → ⊥) → Cut (line_end s) s (length s)
  unfolding line_end
  line_whole n = record { end = rw (ne_eqb _ _ n); within = omega arith }

module _ (s : Bytes) where
  last_byte : (n : ℕ) → word_end s (suc n) ≡ cond (is_blank (get_or s n 0)) (word_end s n) (suc n)
  unfolding word_end
  last_byte n = refl

  -- w is where the last word of the first n bytes ends
  pub end_here : {w : ℕ} (n : ℕ) (r : Bool) → w ≡ word_end s n → 0 < n → r ≡ is_blank (get_or s (n - 1) 0) → not r ≡ true → n ≡ w
  end_here zero r v h e f = absurd (omega arith)
  end_here (suc n) r v h e f =
      let d : suc n - 1 ≡ n = omega arith in
      rw (v, last_byte n, ← rw d at e, not-true r f)

  pub end_blank : {w : ℕ} (n : ℕ) (r : Bool) → w ≡ word_end s n → 0 < n → r ≡ is_blank (get_or s (n - 1) 0) → not r ≡ false → w ≡ word_end s (n - 1)
  end_blank zero r v h e f = absurd (omega arith)
  end_blank (suc n) r v h e f =
      let d : suc n - 1 ≡ n = omega arith in
      rw (v, d, last_byte n, ← rw d at e, not-false r f)

  pub end_none : {w : ℕ} (n : ℕ) → w ≡ word_end s n → n ≤ 0 → n ≡ w
  unfolding word_end
  end_none zero v h = rw v
  end_none (suc n) v h = absurd (omega arith)

-- ---- the case of letters

module _ (c : ℕ) where
  pub lower_upper : 65 ≤ c → c ≤ 90 → c + 32 ≡ lower c
  unfolding lower
  lower_upper h k = rw (le_within 65 90 c h k)

  pub lower_other : (65 ≤ c → c ≤ 90 → ⊥) → c ≡ lower c
  unfolding lower
  lower_other n = by_bool (within 65 90 c) (λ e. let h = within_le 65 90 c e in absurd (n h.0 h.1)) (λ e. rw e)

-- ---- a word, letter by letter

pub says_lengths : (s w : Bytes) → (length s ≡ length w → ⊥) → false ≡ says s w
unfolding says
says_lengths [] [] h = absurd (h refl)
says_lengths [] (d ∷ w) h = refl
says_lengths (c ∷ s) [] h = refl
says_lengths (c ∷ s) (d ∷ w) h =
    by_bool (eqb (lower c) d) (λ e. rw e (says_lengths s w (λ k. h (omega arith)))) (λ e. rw e)

module _ (s w : Bytes) (i : ℕ) (same : length s ≡ length w) (v : says s w ≡ says (drop i s) (drop i w)) where
  letter : i < length w → says s w ≡ (eqb (lower (get_or s i 0)) (get_or w i 0) && says (drop (i + 1) s) (drop (i + 1) w))
  unfolding says
  letter h = v ∙ rw (add-one i, drop-cons s i 0 (omega arith), drop-cons w i 0 h)

  pub letter_other : (l : ℕ) → i < length w → l ≡ lower (get_or s i 0) → (l ≡ get_or w i 0 → ⊥) → false ≡ says s w
  letter_other l h e n = rw (letter h, ← e, ne_eqb _ _ n)

  pub letter_same : (l : ℕ) → i < length w → l ≡ lower (get_or s i 0) → l ≡ get_or w i 0 → says s w ≡ says (drop (i + 1) s) (drop (i + 1) w)
  letter_same l h e f = rw (letter h, ← e, eq-eqb _ _ f)

  pub says_end : length w ≤ i → true ≡ says s w
  unfolding says
  says_end h = rw (v, drop_of_length-le s {i = i} (omega arith), drop_of_length-le w h)
