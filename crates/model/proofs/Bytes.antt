-- Laws of bytes and of the numbers that they say.
use Prim.Native.Nat.{ℕ, zero, suc, ◌+◌, ◌*◌, ◌/◌, ◌%◌, ◌^◌, ◌<◌}
use native.Mathlib.Nat.{pow-succ'}
use native.Mathlib.Omega.{arith}
use mathlib.Core.Path.{◌≡◌, refl, ap}
use mathlib.Core.Bool.{true}
use mathlib.Core.List.{[], ◌∷◌, ◌++◌}
use lib.ListN.{length}
use lib.Dec.{ltb}
use borrow.Author.Tests.{ltb-true}
use Rattle.model.specs.Bytes.{Bytes, are_bytes, num, bytes}
use Rattle.model.proofs.Cases.{and_intro, and_left, and_right}

-- ---- bytes

pub are_bytes_cons : (x : ℕ) (b : Bytes) → are_bytes (x ∷ b) ≡ true → (ltb x 256 ≡ true) × (are_bytes b ≡ true)
unfolding are_bytes
are_bytes_cons x b s = (and_left (ltb x 256) _ s, and_right (ltb x 256) _ s)

pub are_bytes_split : (a b : Bytes) → are_bytes (a ++ b) ≡ true → (are_bytes a ≡ true) × (are_bytes b ≡ true)
unfolding are_bytes
are_bytes_split [] b s = (refl, s)
are_bytes_split (x ∷ a) b s =
    let f = are_bytes_cons x (a ++ b) s in
    let t = are_bytes_split a b f.1 in
    (and_intro f.0 t.0, t.1)

-- ---- numbers

pub length_bytes : (n x : ℕ) → length (bytes n x) ≡ n
unfolding bytes
length_bytes zero x = refl
length_bytes (suc n) x = ap suc (length_bytes n (x / 256))

pub num_bytes : (n x : ℕ) → x < 256 ^ n → num (bytes n x) ≡ x
unfolding num bytes
num_bytes zero x h = omega arith
num_bytes (suc n) x h = rw (num_bytes n (x / 256) (omega arith)) (omega arith)

pub bytes_num : (b : Bytes) → are_bytes b ≡ true → bytes (length b) (num b) ≡ b
unfolding num bytes
bytes_num [] s = refl
bytes_num (x ∷ b) s =
    let f = are_bytes_cons x b s in
    let p : (x + 256 * num b) % 256 ≡ x = omega (arith, ltb-true) in
    let q : (x + 256 * num b) / 256 ≡ num b = omega (arith, ltb-true) in
    rw (p, q, bytes_num b f.1)

pub num_bound : (b : Bytes) → are_bytes b ≡ true → num b < 256 ^ length b
unfolding num
num_bound [] s = omega arith
num_bound (x ∷ b) s =
    let f = are_bytes_cons x b s in
    rw (pow-succ' 256 (length b)) (omega (arith, ltb-true, num_bound b f.1))
