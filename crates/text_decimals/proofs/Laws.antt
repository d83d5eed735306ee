-- A text read from its front: the digits so far make a number, and the rest goes on from it.
use Prim.Native.Nat.{ℕ, suc, ◌+◌, ◌-◌, ◌*◌, ◌^◌, ◌≤◌, ◌<◌}
use mathlib.Core.Path.{◌≡◌}
use mathlib.Core.Bool.{false, ◌&&◌, cond, and-false}
use mathlib.Core.List.{[], ◌∷◌}
use native.Mathlib.Numerals.{add-one}
use native.Mathlib.Omega.{arith}
use borrow.Author.Tests.{ltb-false, le-ltb, lt-ltb, le-leb}
use lib.ListN.{length, drop, get_or, drop_of_length-le}
use lib.Seq.{drop-cons}
use Rattle.model.specs.Bytes.{Bytes}
use Rattle.model.specs.Sound.{within}
use Rattle.model.proofs.Cases.{by_bool}
use Rattle.text_decimals.specs.declared.Parsed.{Parsed}
use Rattle.text_decimals.specs.declared.Parsed.TheVariants.{Number, Bad}
use Rattle.text_decimals.specs.Decimals.{zero_sign, nine_sign, are_digits, value_after, is_small, parsed, with_digit}

-- what the digits after n make of it
unfoldable pub after : (n : ℕ) → Bytes → Parsed
after n bs = cond (are_digits bs && is_small (value_after n bs)) (Number (value_after n bs)) Bad

-- and what the rest makes of a byte more
abbrev pub going : Parsed → Bytes → Parsed
going (Number n) bs = after n bs
going Bad bs = Bad

grows : (n : ℕ) (bs : Bytes) → n ≤ value_after n bs
unfolding value_after
grows n [] = omega arith
grows n (b ∷ bs) = omega (arith, grows (10 * n + (b - zero_sign)) bs)

after_cons : (n b : ℕ) (bs : Bytes) → after n (b ∷ bs) ≡ going (with_digit n b) bs
unfolding with_digit after are_digits value_after
after_cons n b bs =
    let m : ℕ = 10 * n + (b - zero_sign) in
    by_bool (within zero_sign nine_sign b)
    (λ p.
    by_bool (is_small m)
    (λ t. rw (p, t))
    (λ t.
    let k : is_small (value_after m bs) ≡ false = le-ltb (value_after m bs) (2 ^ 64) (omega (arith, ltb-false m (2 ^ 64) t, grows m bs)) in
    rw (p, t, k, and-false (are_digits bs))))
    (λ p. rw p)

-- ---- at place i of a text

pub none_parsed : (s : Bytes) → length s ≡ 0 → parsed s ≡ Bad
unfolding parsed
none_parsed s e = rw e

some_parsed : (s : Bytes) → (length s ≡ 0 → ⊥) → parsed s ≡ after 0 s
unfolding parsed after
some_parsed s h = rw (le-leb 1 (length s) (omega arith))

-- the digits before i say n
module _ (s : Bytes) (n i : ℕ) (v : after 0 s ≡ after n (drop i s)) where
  pub digit_more : {r : Parsed} → i < length s → r ≡ with_digit n (get_or s i 0) → after 0 s ≡ going r (drop (i + 1) s)
  digit_more h e = rw (v, e, drop-cons s i 0 h, add-one i) (after_cons n (get_or s i 0) (drop (suc i) s))

  pub digit_bad : {r : Parsed} → i < length s → r ≡ with_digit n (get_or s i 0) → r ≡ Bad → Bad ≡ parsed s
  digit_bad h e f = rw (some_parsed s (λ z. omega arith), digit_more h e, f)

  pub digits_all : n < 2 ^ 64 → (length s ≡ 0 → ⊥) → length s ≤ i → Number n ≡ parsed s
  unfolding after are_digits value_after
  digits_all l z h = rw (some_parsed s z, v, drop_of_length-le s h, lt-ltb n (2 ^ 64) l)
