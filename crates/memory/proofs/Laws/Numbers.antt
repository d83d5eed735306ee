-- Numbers as bytes and bytes as numbers: each way back.
-- Assumes nothing.
use mathlib.Core.Path.{◌≡◌, refl}
use mathlib.Core.Bool.{Bool, true, ◌&&◌}
use mathlib.Core.List.{[], ◌∷◌, ◌++◌}
use Prim.Native.Nat.{ℕ, zero, suc, ◌+◌, ◌*◌, ◌/◌, ◌%◌, ◌^◌, ◌<◌}
use native.Mathlib.Nat.{zero-add, suc-add, mod-lt, div-div-eq-div-mul, pow-suc, pow-succ', div-one}
use native.Mathlib.Omega.{arith}
use borrow.Author.Tests.{lt-ltb}
use lib.Dec.{lit<}
use lib.ListN.{length, take, drop, get_or, take-append-drop}
use Rattle.model.specs.Bytes.{Bytes, are_bytes, part, num, bytes}
use Rattle.model.proofs.Cases.{and_left, and_right}
use Rattle.model.proofs.Bytes.{are_bytes_split}
pub use Rattle.model.proofs.Bytes.{length_bytes, num_bytes, bytes_num, num_bound}

-- ---- bytes

pub both_true : (a b : Bool) → (a && b) ≡ true → (a ≡ true) × (b ≡ true)
both_true a b h = (and_left a b h, and_right a b h)

pub cons_are_bytes : (b : ℕ) (bs : Bytes) → b < 256 → are_bytes bs ≡ true → are_bytes (b ∷ bs) ≡ true
unfolding are_bytes
cons_are_bytes b bs h k = rw (lt-ltb b 256 h, k)

-- a list is all bytes where each place holds one
pub are_bytes_of : (m : Bytes) → ((i : ℕ) → get_or m i 0 < 256) → are_bytes m ≡ true
unfolding are_bytes
are_bytes_of [] f = refl
are_bytes_of (b ∷ bs) f = cons_are_bytes b bs (f 0) (are_bytes_of bs (λ i. f (suc i)))

are_bytes_cut : (n : ℕ) (m : Bytes) → are_bytes m ≡ true → (are_bytes (take n m) ≡ true) × (are_bytes (drop n m) ≡ true)
are_bytes_cut n m h = are_bytes_split (take n m) (drop n m) (rw take-append-drop h)

pub are_bytes_drop : (n : ℕ) (m : Bytes) → are_bytes m ≡ true → are_bytes (drop n m) ≡ true
are_bytes_drop n m h = (are_bytes_cut n m h).1

pub are_bytes_part : (m : Bytes) (at n : ℕ) → are_bytes m ≡ true → are_bytes (part m at n) ≡ true
unfolding part
are_bytes_part m at n h = (are_bytes_cut n (drop at m) (are_bytes_drop at m h)).0

pub are_bytes_bytes : (n v : ℕ) → are_bytes (bytes n v) ≡ true
unfolding bytes are_bytes
are_bytes_bytes zero v = refl
are_bytes_bytes (suc n) v = cons_are_bytes (v % 256) (bytes n (v / 256)) (mod-lt v (lit< tt)) (are_bytes_bytes n (v / 256))

-- ---- numbers

pub num_append : (xs ys : Bytes) → num (xs ++ ys) ≡ num xs + 256 ^ length xs * num ys
unfolding num
num_append [] ys = omega arith
num_append (x ∷ xs) ys = rw (num_append xs ys, pow-suc) (omega arith)

pub bytes_add : (a b v : ℕ) → bytes (a + b) v ≡ bytes a v ++ bytes b (v / 256 ^ a)
unfolding bytes
bytes_add zero b v = rw (zero-add, div-one)
bytes_add (suc a) b v = rw (suc-add, bytes_add a b (v / 256), div-div-eq-div-mul v 256 (256 ^ a), pow-succ')
