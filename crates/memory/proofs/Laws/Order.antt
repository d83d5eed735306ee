-- The byte order.
-- Assumes nothing.
use mathlib.Core.Path.{◌≡◌, refl, ap, ◌∙◌}
use mathlib.Core.List.{[], ◌∷◌}
use lib.Dec.{eqb}
use lib.Pointwise.{pointwise}
use Rattle.std.specs.Ordering.{nat_cmp, ordering_then, is_eq, is_lt, is_some_and, partial_lt}
use Rattle.std.specs.declared.option.Option.TheVariants.{Some}
use Rattle.std.specs.declared.cmp.Ordering.{Ordering}
use Rattle.std.specs.declared.cmp.Ordering.TheVariants.{Less, Equal, Greater}
use Rattle.std.specs.Cmp.{unsigned_ties}
use Rattle.std.specs.Cmp.Lexicographic.{slice_cmp, slice_partial_cmp, lists_agrees, lists_ties}
use Rattle.model.specs.Bytes.{Bytes, lex, order, is_less, is_same}

then_lex : (o r : Ordering) → ordering_then o r ≡ lex o r
then_lex Less r = refl
then_lex Equal r = refl
then_lex Greater r = refl

-- the library's order of slices is the model's
pub order_is : (a b : Bytes) → slice_cmp nat_cmp a b ≡ order a b
unfolding order
order_is [] [] = refl
order_is [] (y ∷ ys) = refl
order_is (x ∷ xs) [] = refl
order_is (x ∷ xs) (y ∷ ys) = rw (order_is xs ys, then_lex (nat_cmp x y) (order xs ys))

lt_told : (o : Ordering) → is_lt o ≡ is_less o
lt_told Less = refl
lt_told Equal = refl
lt_told Greater = refl

-- the library's `<` of slices is the model's
pub less_bytes : (a b : Bytes) → partial_lt (slice_partial_cmp (λ x y. Some (nat_cmp x y))) a b ≡ is_less (order a b)
less_bytes a b =
    ap (is_some_and is_lt) (lists_agrees (λ x y. refl) a b) ∙ lt_told (slice_cmp nat_cmp a b) ∙ ap is_less (order_is a b)

eq_told : (o : Ordering) → is_eq o ≡ is_same o
eq_told Less = refl
eq_told Equal = refl
eq_told Greater = refl

-- equal byte by byte
pub same_bytes : (a b : Bytes) → pointwise eqb a b ≡ is_same (order a b)
same_bytes a b = lists_ties nat_cmp unsigned_ties a b ∙ eq_told (slice_cmp nat_cmp a b) ∙ ap is_same (order_is a b)
