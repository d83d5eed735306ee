-- The number that a field says, read from its last byte down.
use mathlib.Core.Path.{◌≡◌, ◌∙◌}
use Prim.Native.Nat.{ℕ, suc, ◌+◌, ◌-◌, ◌*◌, ◌^◌, ◌≤◌, ◌<◌}
use native.Mathlib.Nat.{zero-lt-suc, pow-le-pow_right, pow-suc}
use native.Mathlib.Numerals.{add-one}
use native.Mathlib.Omega.{arith}
use lib.ListN.{length, drop, get_or, length-append, drop_of_length-le}
use mathlib.Core.List.{List, [], ◌∷◌, ◌++◌, reverse}
use Rattle.std.proofs.lemmas.List.{get_or-reverse, length-reverse}
use Rattle.std.proofs.lemmas.Grind.{get_or_default_zero}
use lib.Seq.{drop-cons}
use borrow.Author.Tests.{le-ltb, lt-ltb}
use Rattle.model.specs.Sizes.{number_width}
use Rattle.model.specs.Bytes.{Bytes, num}
use Rattle.dump_fields.specs.Machine.{said}

pub num_step : (f : Bytes) (i : ℕ) → i < length f → num (drop i f) ≡ get_or f i 0 + 256 * num (drop (i + 1) f)
unfolding num
num_step f i h = rw (add-one i, drop-cons f i 0 h)

pub num_end : (f : Bytes) (i : ℕ) → length f ≤ i → num (drop i f) ≡ 0
unfolding num
num_end f i h = rw (drop_of_length-le f h)

pub said_long : (f : Bytes) → number_width < length f → said f ≡ 0
unfolding said
said_long f h = rw (lt-ltb number_width (length f) h)

pub said_short : (f : Bytes) → length f ≤ number_width → said f ≡ num f
unfolding said
said_short f h = rw (le-ltb number_width (length f) h)

-- one more byte below, and that a number still has room for it
pub byte_below : (n b k : ℕ) → n < 256 ^ k → b < 256 → n * 256 + b < 256 ^ suc k
byte_below n b k h g = rw (pow-suc 256 k) (omega arith)

pub byte_fits : (n b k : ℕ) → k < number_width → n < 256 ^ k → b < 256 → n * 256 + b < 2 ^ 64
byte_fits n b k l h g =
    let u = byte_below n b k h g in
    let v : 256 ^ suc k ≤ 2 ^ 64 = pow-le-pow_right {n = 256} (zero-lt-suc 255) l in
    omega arith

-- ---- the byte b that comes after k others from the last one down, where n is the number of those

module _ (f : Bytes) (k n b : ℕ) (t : (k < length (reverse f)) × (b ≡ get_or (reverse f) k b))
    (bytes : (i : ℕ) → get_or f i 0 < 256) where
  turn_within : k < length f
  turn_within = omega (arith, length-reverse f, t.0)

  turn_byte : b ≡ get_or f (length f - 1 - k) 0
  turn_byte =
      let h = turn_within in
      t.1 ∙ get_or-reverse f k b h ∙ get_or_default_zero f (length f - 1 - k) b (omega arith)

  turn_low : b < 256
  turn_low = rw turn_byte (bytes (length f - 1 - k))

  pub turn_fits : length f ≤ number_width → n < 256 ^ k → (n * 256 < 2 ^ 64) × (n * 256 + b < 2 ^ 64)
  turn_fits h g =
      let e = byte_fits n b k (omega (arith, turn_within)) g turn_low in (omega arith, e)

  pub turn_number : {A : Type 0} (ys : List A) (y : A) → k ≡ length ys → n ≡ num (drop (length f - k) f) → n < 256 ^ k
      → (n * 256 + b ≡ num (drop (length f - length (ys ++ (y ∷ []))) f)) × (n * 256 + b < 256 ^ length (ys ++ (y ∷ [])))
  turn_number ys y h e g =
      let l : length (ys ++ (y ∷ [])) ≡ suc k = rw (length-append, ← h) (omega arith) in
      let i : ℕ = length f - suc k in
      let m : i + 1 ≡ length f - k = omega (arith, turn_within) in
      let j : length f - 1 - k ≡ i = omega arith in
      let s = num_step f i (omega (arith, turn_within)) in
      let d = rw j at turn_byte in
      (rw l (omega (arith, rw m at s, d)), rw l (byte_below n b k g turn_low))
