-- Fields at a place of the batch, what a parser goes on with behind them, and what becomes of a fault.
-- Assumes nothing.
use mathlib.Core.Path.{◌≡◌, refl, sym, ap}
use mathlib.Core.Bool.{false}
use Prim.Native.Nat.{ℕ, ◌+◌, ◌-◌, ◌≤◌, ◌<◌}
use lib.Dec.{eqb}
use lib.ListN.{length, drop, length-drop}
use lib.Seq.{drop-drop}
use borrow.Author.Tests.{lt-ltb, le-ltb}
use Rattle.model.specs.Bytes.{Bytes, part, num}
use Rattle.model.specs.Load.{Parsed, got, bad, Parser, bind, give, field, number_field}
use Rattle.model_laws.proofs.Round.{bad_got}
use Rattle.batch_items.specs.Clauses.{Ends, Told}

-- ---- faults

bad_number : {A : Type 0} {k n p q : ℕ} → ◌≡◌ {A = Parsed A} (bad k p) (bad n q) → k ≡ n
bad_number e = cc

-- a fault stays one, whatever would have come
pub told_bind : {A B : Type 0} {n : ℕ} (m : Parsed A) (f : A → Parser B) → Told n m → Told n (bind m f)
unfolding bind
told_bind (got a p y) f t = bad_got (sym (t 0))
told_bind (bad k p) f t = λ at. ap (λ (n : ℕ). bad n at) (bad_number (t at))

pub told_malformed : {A : Type 0} {m : Parsed A} {k p : ℕ} → m ≡ bad k p → eqb k 19 ≡ false → Told 18 m
told_malformed e z = λ at. rw (e, z)

-- ---- what was read

pub ends_then : {A B : Type 0} {x : Bytes} {m : Parsed A} {a : A} {p : ℕ} (f : A → Parser B) → Ends x m a p → bind m f ≡ f a p (drop p x)
unfolding bind
ends_then f t = rw t.is

pub ends_give : {A B : Type 0} {x : Bytes} {m : Parsed A} {a : A} {p : ℕ} (g : A → B) → Ends x m a p
    → Ends x (bind m (λ a. give (g a))) (g a) p
ends_give g t = record { is = ends_then (λ a. give (g a)) t; inside = t.inside }

-- ---- a field

module _ (x : Bytes) (at n : ℕ) where
  module _ (t : Bytes → ℕ) where
    field_cut : length x - at < n → field n t at (drop at x) ≡ bad 13 at
    unfolding field
    field_cut l = rw (length-drop at x, lt-ltb (length x - at) n l)

    field_faulty : n ≤ length x - at → eqb (t (part x at n)) 0 ≡ false → field n t at (drop at x) ≡ bad (t (part x at n)) at
    unfolding field part
    field_faulty l z = rw (length-drop at x, le-ltb (length x - at) n l, z)

    pub field_is : n ≤ length x - at → t (part x at n) ≡ 0
        → field n t at (drop at x) ≡ got (part x at n) (at + n) (drop (at + n) x)
    unfolding field part
    field_is l z = rw (length-drop at x, le-ltb (length x - at) n l, z, drop-drop n at x)

  module _ (t : ℕ → ℕ) where
    pub number_cut : length x - at < n → Told 18 (number_field n t at (drop at x))
    unfolding number_field
    number_cut l = told_bind _ _ (told_malformed (field_cut (λ b. t (num b)) l) refl)

    module _ (l : n ≤ length x - at) {v : ℕ} (e : v ≡ num (part x at n)) where
      pub number_faulty : eqb (t v) 0 ≡ false → number_field n t at (drop at x) ≡ bad (t v) at
      unfolding number_field bind
      number_faulty z = rw (field_faulty (λ b. t (num b)) l (rw (← e) z), ← e)

      pub number_is : t v ≡ 0 → number_field n t at (drop at x) ≡ got v (at + n) (drop (at + n) x)
      unfolding number_field bind
      number_is z = rw (field_is (λ b. t (num b)) l (rw (← e) z), ← e)

pub bytes_cut : (x : Bytes) (at n : ℕ) → length x - at < n → Told 18 (field n (λ b. 0) at (drop at x))
bytes_cut x at n l = told_malformed (field_cut x at n (λ b. 0) l) refl
