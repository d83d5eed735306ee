-- What stands before and after a mark, walked byte by byte; text that grows.
-- Assumes nothing.
use mathlib.Core.Path.{◌≡◌, refl}
use mathlib.Core.Bool.{true, false, cond}
use mathlib.Core.List.{[], ◌∷◌}
use Prim.Native.Nat.{ℕ, suc, ◌+◌, ◌-◌, ◌≤◌, ◌<◌}
use native.Mathlib.Numerals.{add-one}
use native.Mathlib.Omega.{arith}
use borrow.Author.Tests.{le-leb, lt-leb, eq-eqb, ne_eqb}
use lib.Dec.{eqb, leb}
use lib.ListN.{length, take, drop, get_or, length-drop, drop_of_length-le}
use lib.Seq.{sets, drop-cons, take_all}
use Rattle.model.specs.Bytes.{Bytes}
use Rattle.model.proofs.Cases.{by_bool}
use Rattle.text_words.specs.Words.{before, after, UpTo, Appended}

-- ---- the text cut at a mark

pub before_take : (m : ℕ) (s : Bytes) → take (length (before m s)) s ≡ before m s
unfolding before
before_take m [] = refl
before_take m (c ∷ s) = by_bool (eqb c m) (λ e. rw e) (λ e. rw (e, before_take m s))

before_length : (m : ℕ) (s : Bytes) → length (before m s) ≤ length s
unfolding before
before_length m [] = omega arith
before_length m (c ∷ s) = by_bool (eqb c m) (λ e. rw e (omega arith)) (λ e. rw e (omega (arith, before_length m s)))

-- also where there is no mark: both are empty
pub after_drop : (m : ℕ) (s : Bytes) → drop (suc (length (before m s))) s ≡ after m s
unfolding before after
after_drop m [] = refl
after_drop m (c ∷ s) = by_bool (eqb c m) (λ e. rw e) (λ e. rw e (after_drop m s))

-- the rest of a text, cut out of it from k on
pub tail : (s : Bytes) (k : ℕ) → take (length s - k) (drop k s) ≡ drop k s
tail s k = take_all (length s - k) (drop k s) (rw length-drop (omega arith))

-- ---- a mark that is not among the first i bytes

module _ (m : ℕ) (s : Bytes) (i : ℕ) (v : length (before m s) ≡ i + length (before m (drop i s))) where
  found : length (before m (drop i s)) ≡ 0 → UpTo m s i
  found e = record { end = omega arith; within = omega (arith, before_length m s) }

  step : i < length s → before m (drop i s) ≡ cond (eqb (get_or s i 0) m) [] (get_or s i 0 ∷ before m (drop (i + 1) s))
  unfolding before
  step h = rw (add-one, drop-cons s i 0 h)

  pub at_mark : i < length s → get_or s i 0 ≡ m → UpTo m s i
  at_mark h e = found (rw (step h, eq-eqb _ _ e))

  pub past_byte : i < length s → (get_or s i 0 ≡ m → ⊥) → length (before m s) ≡ i + 1 + length (before m (drop (i + 1) s))
  past_byte h e = rw (v, step h, ne_eqb _ _ e) (omega arith)

  pub at_end : length s ≤ i → UpTo m s i
  unfolding before
  at_end h = found (rw (drop_of_length-le s h))

-- ---- text that grows

pub no_room_lem : (t : Bytes) (at : ℕ) (xs : Bytes) → length t < at + length xs → Appended t t at at xs
no_room_lem t at xs h =
    let e : leb (at + length xs) (length t) ≡ false = lt-leb _ _ h in
    record { end = rw e; text = rw e; within = omega arith }

pub has_room_lem : (t : Bytes) {t' : Bytes} (at : ℕ) (xs : Bytes) → at + length xs ≤ length t → t' ≡ sets t at xs → Appended t t' at (at + length xs) xs
has_room_lem t at xs h g =
    let e : leb (at + length xs) (length t) ≡ true = le-leb _ _ h in
    record { end = rw e; text = rw e g; within = omega arith }
