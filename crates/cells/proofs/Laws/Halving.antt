-- A key sought by halving, among keys that ascend.
-- Assumes nothing.
use mathlib.Core.Path.{◌≡◌, sym, ◌∙◌}
use mathlib.Core.List.{List, [], ◌∷◌}
use Rattle.std.specs.declared.cmp.Ordering.TheVariants.{Less, Equal, Greater}
use Prim.Native.Nat.{ℕ, zero, suc, ◌+◌, ◌≤◌, ◌<◌}
use native.Mathlib.Nat.{add-zero, zero-add, not-suc-le-zero, le_of_suc-le-suc}
use native.Mathlib.Omega.{arith}
use borrow.Author.Tests.{leb-true, leb-false, eqb-true, eqb-false}
use lib.Dec.{eqb}
use lib.ListN.{length, get_or, drop, drop_of_length-le}
use lib.Seq.{drop-cons}
use Rattle.model.specs.Bytes.{Bytes, order}
use Rattle.model.proofs.Cases.{by_bool, by_order, lt_eq}
use Rattle.model.proofs.Order.{order_refl, order_eq, order_trans, order_flip}
use Rattle.model_laws.proofs.Sound as sound
use Rattle.cells.specs.Rows.{Ascending, place_of}
use Rattle.cells.specs.declared.rows.Place.TheVariants.{At, Before}

-- ---- keys that ascend

-- sound keys, with the one that they come after
with_last : (last : Bytes) (ks : List Bytes) → sound.Ascending last ks → Ascending (last ∷ ks)
with_last last ks a i zero h l = absurd (not-suc-le-zero h)
with_last last [] a i (suc j) h l = absurd (not-suc-le-zero (le_of_suc-le-suc l))
with_last last (k ∷ ks) a zero (suc zero) h l = a.0
with_last last (k ∷ ks) a zero (suc (suc j)) h l =
    order_trans last k _ a.0 (with_last k ks a.2 zero _ (omega arith) (le_of_suc-le-suc l))
with_last last (k ∷ ks) a (suc i) (suc j) h l = with_last k ks a.2 i j (le_of_suc-le-suc h) (le_of_suc-le-suc l)

pub ascends : (last : Bytes) (ks : List Bytes) → sound.Ascending last ks → Ascending ks
ascends last ks a i j h l = with_last last ks a (suc i) (suc j) (omega arith) (omega arith)

order_back : (a b : Bytes) → order a b ≡ Less → order b a ≡ Greater
order_back a b h =
    by_order _
    (λ p. lt_eq (sym (order_trans a b a h p) ∙ order_refl a))
    (λ p. lt_eq (sym (rw (order_eq b a p) at h) ∙ order_refl a))
    (λ p. p)

-- ---- the place of key k

-- the first i keys are below k
abbrev pub Below : (k : Bytes) (ks : List Bytes) (i : ℕ) → Type 0
Below k ks i = (j : ℕ) → j < i → order k (get_or ks j []) ≡ Greater

past_below : (k : Bytes) (i n : ℕ) (ks : List Bytes) → i ≤ length ks → Below k ks i
    → place_of k n ks ≡ place_of k (n + i) (drop i ks)
unfolding place_of
past_below k zero n ks h b = rw (add-zero n)
past_below k (suc i) n [] h b = absurd (not-suc-le-zero h)
past_below k (suc i) n (x ∷ ks) h b =
    let e : n + suc i ≡ suc n + i = omega arith in
    rw (b zero (omega arith), e) (past_below k i _ ks (le_of_suc-le-suc h) (λ j l. b (suc j) (omega arith)))

-- the first lo keys are below k, and key hi is above it, if there is one
pub record Between (k : Bytes) (ks : List Bytes) (lo hi : ℕ) : Type 0 where
  pub below : Below k ks lo
  pub above : hi < length ks → order k (get_or ks hi []) ≡ Less

module _ (k : Bytes) (ks : List Bytes) where
  pub all_left : Between k ks 0 (length ks)
  all_left = record { below = λ j l. absurd (not-suc-le-zero l); above = λ l. absurd (omega arith) }

  module _ (i : ℕ) where
    pub none_left : i ≤ length ks → Between k ks i i → place_of k 0 ks ≡ Before i
    unfolding place_of
    none_left h b =
        past_below k i 0 ks h b.below
        ∙ by_bool _
        (λ q. rw (zero-add i, drop_of_length-le ks (leb-true (length ks) i q)))
        (λ q. let l = leb-false _ i q in rw (zero-add i, drop-cons ks i [] l, b.above l))

    module _ (a : Ascending ks) (h : i < length ks) where
      pub more_below : order k (get_or ks i []) ≡ Greater → Below k ks (i + 1)
      more_below o j l =
          by_bool (eqb j i)
          (λ q. rw (eqb-true j i q) o)
          (λ q. let p = a j i (omega (arith, eqb-false j i q)) h in
          order_back _ k (order_trans _ _ k p (order_flip k _ o)))

      pub found : order k (get_or ks i []) ≡ Equal → place_of k 0 ks ≡ At i
      unfolding place_of
      found o =
          let e : get_or ks i [] ≡ k = sym (order_eq k _ o) in
          let b : Below k ks i = λ j l. order_back (get_or ks j []) k (rw e at (a j i l h)) in
          past_below k i 0 ks (omega arith) b ∙ rw (zero-add i, drop-cons ks i [] h, o)
