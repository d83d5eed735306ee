-- Cases that keep the equation, and tests that hold taken apart.
use Prim.Native.Nat.{ℕ, ◌≤◌}
use Rattle.std.specs.declared.cmp.Ordering.{Ordering}
use Rattle.std.specs.declared.cmp.Ordering.TheVariants.{Less, Equal, Greater}
use native.Mathlib.Omega.{arith}
use mathlib.Core.Path.{◌≡◌, refl, sym}
use mathlib.Core.Bool.{Bool, true, false, ◌&&◌, ◌||◌}
use mathlib.Core.List.{List, [], ◌∷◌}
use Rattle.std.specs.Prelude.{Option, None, Some}
use lib.Dec.{leb}
use lib.ListN.{length}
use borrow.Author.Tests.{leb-true, le-leb}
use Rattle.model.specs.Sizes.{max_key}
use Rattle.model.specs.Bytes.{Bytes}
use Rattle.model.specs.State.{Payload, deletion, content, is_deletion}
use Rattle.model.specs.Sound.{every, within, are_printable, key_fits}
-- the whiteboard is checked before any law, so that a wrong definition is told by the case it breaks
use Rattle.model.specs.Whiteboard

pub by_bool {ℓ} : {P : Type ℓ} (b : Bool) → (b ≡ true → P) → (b ≡ false → P) → P
by_bool true f g = f refl
by_bool false f g = g refl

pub by_order {ℓ} : {P : Type ℓ} (o : Ordering) → (o ≡ Less → P) → (o ≡ Equal → P) → (o ≡ Greater → P) → P
by_order Less f g h = f refl
by_order Equal f g h = g refl
by_order Greater f g h = h refl

pub by_option {ℓ} : {A : Type 0} {P : Type ℓ} (o : Option A) → (o ≡ None → P) → ((a : A) → o ≡ Some a → P) → P
by_option None f g = f refl
by_option (Some a) f g = g a refl

pub zero_one {ℓ} : {P : Type ℓ} → ◌≡◌ {A = ℕ} 0 1 → P
zero_one e = absurd (omega arith)

pub true_false {ℓ} : {P : Type ℓ} → true ≡ false → P
true_false e = zero_one (cc e)

pub none_some {ℓ} : {A : Type 0} {a : A} {P : Type ℓ} → None ≡ Some a → P
none_some e = zero_one (cc e)

pub lt_eq {ℓ} : {P : Type ℓ} → Less ≡ Equal → P
lt_eq e = zero_one (cc e)

pub lt_gt {ℓ} : {P : Type ℓ} → Less ≡ Greater → P
lt_gt e = zero_one (cc e)

-- two lists with equal heads and equal tails
pub both {ℓ} : {A : Type ℓ} {x y : A} {xs ys : List A} → x ≡ y → xs ≡ ys → ◌≡◌ {A = List A} (x ∷ xs) (y ∷ ys)
both p q = λ i. p i ∷ q i

-- ---- tests

pub and_intro : {a b : Bool} → a ≡ true → b ≡ true → (a && b) ≡ true
and_intro p q = rw p q

pub and_left : (a b : Bool) → (a && b) ≡ true → a ≡ true
and_left true b e = refl
and_left false b e = e

pub and_right : (a b : Bool) → (a && b) ≡ true → b ≡ true
and_right true b e = e
and_right false b e = true_false (sym e)

pub and_true : (b : Bool) → b ≡ (b && true)
and_true true = refl
and_true false = refl

pub and_false : (b : Bool) → false ≡ (b && false)
and_false true = refl
and_false false = refl

pub and_swap : (a b : Bool) → (a && b) ≡ (b && a)
and_swap true true = refl
and_swap true false = refl
and_swap false true = refl
and_swap false false = refl

pub or_left : (a b : Bool) → (a || b) ≡ false → a ≡ false
or_left true b e = e
or_left false b e = refl

pub or_right : (a b : Bool) → (a || b) ≡ false → b ≡ false
or_right true b e = true_false e
or_right false b e = e

pub or_intro : {a b : Bool} → a ≡ false → b ≡ false → (a || b) ≡ false
or_intro p q = rw p q

pub is_deletion_lem : (p : Payload) → is_deletion p ≡ true → p ≡ deletion
is_deletion_lem deletion e = refl
is_deletion_lem (content b) e = true_false (sym e)

-- the tests of a list all hold
abbrev pub All : List Bool → Type 0
All [] = Unit {0}
All (b ∷ bs) = (b ≡ true) × All bs

pub every_all : (bs : List Bool) → every bs ≡ true → All bs
unfolding every
every_all [] e = tt
every_all (b ∷ bs) e = (and_left b (every bs) e, every_all bs (and_right b (every bs) e))

pub all_every : (bs : List Bool) → All bs → every bs ≡ true
unfolding every
all_every [] a = refl
all_every (b ∷ bs) a = and_intro a.0 (all_every bs a.1)

pub within_le : (lo hi x : ℕ) → within lo hi x ≡ true → (lo ≤ x) × (x ≤ hi)
within_le lo hi x e = (leb-true lo x (and_left (leb lo x) (leb x hi) e), leb-true x hi (and_right (leb lo x) (leb x hi) e))

pub le_within : (lo hi x : ℕ) → lo ≤ x → x ≤ hi → within lo hi x ≡ true
le_within lo hi x p q = and_intro (le-leb lo x p) (le-leb x hi q)

-- a good key has its length and its bytes, and nothing else makes one
pub key_parts : (k : Bytes) → key_fits k ≡ true → (1 ≤ length k) × (length k ≤ max_key) × (are_printable k ≡ true)
unfolding key_fits
key_parts k e =
    let l = within_le 1 max_key (length k) (and_left (within 1 max_key (length k)) (are_printable k) e) in
    (l.0, l.1, and_right (within 1 max_key (length k)) (are_printable k) e)

pub good_key : (k : Bytes) → 1 ≤ length k → length k ≤ max_key → are_printable k ≡ true → key_fits k ≡ true
unfolding key_fits
good_key k p q r = and_intro (le_within 1 max_key (length k) p q) r
