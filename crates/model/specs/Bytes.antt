-- Bytes, their order, and numbers as little-endian bytes.
use Prim.Native.Nat.{ℕ, zero, suc, ◌+◌, ◌*◌, ◌/◌, ◌%◌}
use Rattle.std.specs.declared.cmp.Ordering.{Ordering}
use Rattle.std.specs.Ordering.{nat_cmp}
use Rattle.std.specs.declared.cmp.Ordering.TheVariants.{Less, Equal, Greater}
use Rattle.std.specs.Prelude.{Bool, true, false, ◌&&◌, List, [], ◌∷◌, take, drop, ltb}

abbrev pub Bytes : Type 0
Bytes = List ℕ

-- each is a byte
unfoldable pub are_bytes : Bytes → Bool
are_bytes [] = true
are_bytes (b ∷ bs) = ltb b 256 && are_bytes bs

-- the n bytes that start at `at`, or what there is of them
unfoldable pub part : Bytes → (at n : ℕ) → Bytes
part m at n = take n (drop at m)

-- ---- order

abbrev pub lex : Ordering → Ordering → Ordering
lex Less r = Less
lex Equal r = r
lex Greater r = Greater

-- byte by byte; a proper prefix comes first
unfoldable pub order : Bytes → Bytes → Ordering
order [] [] = Equal
order [] (y ∷ ys) = Less
order (x ∷ xs) [] = Greater
order (x ∷ xs) (y ∷ ys) = lex (nat_cmp x y) (order xs ys)

-- the first, second or third, as the order is less, equal or greater
abbrev pub pick {ℓ} : {A : Type ℓ} → Ordering → A → A → A → A
pick Less l e g = l
pick Equal l e g = e
pick Greater l e g = g

abbrev pub is_less : Ordering → Bool
is_less o = pick o true false false

abbrev pub is_same : Ordering → Bool
is_same o = pick o false true false

-- ---- little-endian numbers

-- the number that bytes say
unfoldable pub num : Bytes → ℕ
num [] = 0
num (b ∷ bs) = b + 256 * num bs

-- the n bytes of x
unfoldable pub bytes : (n x : ℕ) → Bytes
bytes zero x = []
bytes (suc n) x = x % 256 ∷ bytes n (x / 256)
