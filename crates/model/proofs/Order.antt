-- Laws of the order of bytes.
use Prim.Native.Nat.{ℕ, ◌≤◌, ◌<◌}
use Rattle.std.specs.Ordering.{nat_cmp}
use Rattle.std.specs.declared.cmp.Ordering.{Ordering}
use Rattle.std.specs.declared.cmp.Ordering.TheVariants.{Less, Equal, Greater}
use native.Mathlib.Omega.{arith}
use mathlib.Core.Path.{◌≡◌, refl, sym}
use mathlib.Core.Logic.{◌⊎◌, inl, inr, ⊎_elim}
use mathlib.Core.Bool.{true}
use mathlib.Core.List.{[], ◌∷◌}
use lib.ListN.{length}
use Rattle.std.specs.Cmp.{ranked, nat_cmp_is}
use Rattle.model.specs.Bytes.{Bytes, lex, order, is_less, is_same}
use Rattle.model.proofs.Cases.{zero_one, true_false, lt_eq, lt_gt}

-- ---- numbers

cmp_refl : (x : ℕ) → nat_cmp x x ≡ Equal
cmp_refl x = sym (nat_cmp_is x x Equal refl)

cmp_eq : (x y : ℕ) → nat_cmp x y ≡ Equal → x ≡ y
cmp_eq x y e = ranked x y Equal (sym e)

cmp_lt : (x y : ℕ) → nat_cmp x y ≡ Less → x < y
cmp_lt x y e = ranked x y Less (sym e)

cmp_gt : (x y : ℕ) → nat_cmp x y ≡ Greater → y < x
cmp_gt x y e = ranked x y Greater (sym e)

lt_cmp : (x y : ℕ) → x < y → nat_cmp x y ≡ Less
lt_cmp x y h = sym (nat_cmp_is x y Less h)

lex_is : (o r x : Ordering) → lex o r ≡ x → (o ≡ x) ⊎ ((o ≡ Equal) × (r ≡ x))
lex_is Less r x e = inl e
lex_is Equal r x e = inr (refl, e)
lex_is Greater r x e = inl e

lex_eq : (o r : Ordering) → lex o r ≡ Equal → (o ≡ Equal) × (r ≡ Equal)
lex_eq Less r e = lt_eq e
lex_eq Equal r e = (refl, e)
lex_eq Greater r e = zero_one (cc e)

-- ---- bytes

pub order_refl : (a : Bytes) → order a a ≡ Equal
unfolding order
order_refl [] = refl
order_refl (x ∷ xs) = rw (cmp_refl x) (order_refl xs)

pub order_eq : (a b : Bytes) → order a b ≡ Equal → a ≡ b
unfolding order
order_eq [] [] e = refl
order_eq [] (y ∷ ys) e = lt_eq e
order_eq (x ∷ xs) [] e = zero_one (cc e)
order_eq (x ∷ xs) (y ∷ ys) e =
    let p = lex_eq (nat_cmp x y) (order xs ys) e in
    λ i. cmp_eq x y p.0 i ∷ order_eq xs ys p.1 i

pub order_trans : (a b c : Bytes) → order a b ≡ Less → order b c ≡ Less → order a c ≡ Less
unfolding order
order_trans [] [] c p q = lt_eq (sym p)
order_trans [] (y ∷ ys) [] p q = lt_gt (sym q)
order_trans [] (y ∷ ys) (z ∷ zs) p q = refl
order_trans (x ∷ xs) [] c p q = lt_gt (sym p)
order_trans (x ∷ xs) (y ∷ ys) [] p q = lt_gt (sym q)
order_trans (x ∷ xs) (y ∷ ys) (z ∷ zs) p q =
    let r = lex_is (nat_cmp y z) (order ys zs) _ q in
    ⊎_elim
    (λ a. ⊎_elim
    (λ b. rw (lt_cmp x z (omega (arith, cmp_lt x y a, cmp_lt y z b))))
    (λ b. rw (lt_cmp x z (omega (arith, cmp_lt x y a, cmp_eq y z b.0)))) r)
    (λ a. ⊎_elim
    (λ b. rw (lt_cmp x z (omega (arith, cmp_eq x y a.0, cmp_lt y z b))))
    (λ b. rw (cmp_eq x y a.0, b.0) (order_trans xs ys zs a.1 b.1)) r)
    (lex_is (nat_cmp x y) (order xs ys) _ p)

pub order_flip : (a b : Bytes) → order a b ≡ Greater → order b a ≡ Less
unfolding order
order_flip [] [] e = zero_one (cc e)
order_flip [] (y ∷ ys) e = lt_gt e
order_flip (x ∷ xs) [] e = refl
order_flip (x ∷ xs) (y ∷ ys) e =
    ⊎_elim
    (λ a. rw (lt_cmp y x (cmp_gt x y a)))
    (λ a. rw (cmp_eq x y a.0, cmp_refl y) (order_flip xs ys a.1))
    (lex_is (nat_cmp x y) (order xs ys) _ e)

-- ---- the order as a test

pub less_lt : (o : Ordering) → is_less o ≡ true → o ≡ Less
less_lt Less e = refl
less_lt Equal e = true_false (sym e)
less_lt Greater e = true_false (sym e)

-- nothing is below the empty key
pub less_some : (a b : Bytes) → is_less (order a b) ≡ true → 1 ≤ length b
unfolding order
less_some a (y ∷ b) e = omega arith
less_some [] [] e = true_false (sym e)
less_some (x ∷ a) [] e = true_false (sym e)

pub lt_less : (o : Ordering) → o ≡ Less → is_less o ≡ true
lt_less o e = rw e

pub same_eq : (o : Ordering) → is_same o ≡ true → o ≡ Equal
same_eq Less e = true_false (sym e)
same_eq Equal e = refl
same_eq Greater e = true_false (sym e)
