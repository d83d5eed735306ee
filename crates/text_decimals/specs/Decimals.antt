-- Decimal numbers as text: digits 0 to 9 and nothing else, at least one, zeros in front let by,
-- of a value below 2 to the 64.
use Rattle.std.specs.Prelude.{ℕ, ◌+◌, ◌-◌, ◌*◌, ◌^◌, Bool, true, ◌&&◌, cond, [], ◌∷◌, length, leb, ltb}
use Rattle.model.specs.Bytes.{Bytes}
use Rattle.model.specs.Sound.{within}
use Rattle.text_decimals.specs.declared.Parsed.{Parsed}
use Rattle.text_decimals.specs.declared.Parsed.TheVariants.{Number, Bad}

-- the bytes of the digits 0 and 9
abbrev pub zero_sign : ℕ
zero_sign = 0x30

abbrev pub nine_sign : ℕ
nine_sign = 0x39

unfoldable pub are_digits : Bytes → Bool
are_digits [] = true
are_digits (b ∷ bs) = within zero_sign nine_sign b && are_digits bs

-- the number that n's digits and those after them say
unfoldable pub value_after : (n : ℕ) → Bytes → ℕ
value_after n [] = n
value_after n (b ∷ bs) = value_after (10 * n + (b - zero_sign)) bs

abbrev pub is_small : ℕ → Bool
is_small n = ltb n (2 ^ 64)

unfoldable pub parsed : Bytes → Parsed
parsed bs = cond (leb 1 (length bs) && (are_digits bs && is_small (value_after 0 bs))) (Number (value_after 0 bs)) Bad

-- one byte more
unfoldable pub with_digit : (n byte : ℕ) → Parsed
with_digit n b =
    cond (within zero_sign nine_sign b && is_small (10 * n + (b - zero_sign))) (Number (10 * n + (b - zero_sign))) Bad
