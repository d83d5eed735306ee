-- Bytes as hex, written in lower case and read in either; `-` stands for no bytes.
use Rattle.std.specs.Prelude.{ℕ, ◌+◌, ◌*◌, ◌-◌, ◌/◌, ◌%◌, ◌≡◌, Bool, true, false, ◌&&◌, cond, [], ◌∷◌, eqb, leb, ltb, length, Option, None, Some}
use Rattle.std.proofs.lemmas.List.Edits.{sets}
use Rattle.model.specs.Bytes.{Bytes, part}
use Rattle.model.specs.State.{given}
use Rattle.text_hex.specs.declared.Decoded.{Decoded}
use Rattle.text_hex.specs.declared.Decoded.TheVariants.{Count, Bad}

abbrev pub dash : ℕ
dash = 45

-- ---- from text to bytes

-- the value of a digit, 16 for any other byte
unfoldable pub nibble : ℕ → ℕ
nibble c =
    cond (leb 48 c && leb c 57) (c - 48)
    (cond (leb 65 c && leb c 70) (c - 55)
    (cond (leb 97 c && leb c 102) (c - 87) 16))

abbrev pub is_digit : ℕ → Bool
is_digit c = ltb (nibble c) 16

-- a text of pairs of digits
unfoldable pub is_pairs : Bytes → Bool
is_pairs [] = true
is_pairs (a ∷ []) = false
is_pairs (a ∷ b ∷ s) = is_digit a && (is_digit b && is_pairs s)

-- a byte for each pair
unfoldable pub pairs : Bytes → Bytes
pairs [] = []
pairs (a ∷ []) = []
pairs (a ∷ b ∷ s) = (nibble a * 16 + nibble b) ∷ pairs s

abbrev pub is_dash : Bytes → Bool
is_dash [] = false
is_dash (c ∷ []) = eqb c dash
is_dash (c ∷ d ∷ s) = false

-- the bytes that a text says, if it says any
unfoldable pub said : Bytes → Option Bytes
said [] = None
said (c ∷ s) = cond (is_dash (c ∷ s)) (Some []) (given (is_pairs (c ∷ s)) (pairs (c ∷ s)))

-- ---- from bytes to text

abbrev pub glyph : ℕ → ℕ
glyph d = cond (ltb d 10) (48 + d) (87 + d)

unfoldable pub digits : Bytes → Bytes
digits [] = []
digits (b ∷ bs) = glyph (b / 16) ∷ glyph (b % 16) ∷ digits bs

unfoldable pub text_of : Bytes → Bytes
text_of [] = dash ∷ []
text_of (b ∷ bs) = digits (b ∷ bs)

-- ---- contracts

-- bytes that an output of that room can hold at `at`
abbrev pub fitting : (at room : ℕ) → Option Bytes → Option Bytes
fitting at room None = None
fitting at room (Some bs) = given (leb (at + length bs) room) bs

abbrev pub count_of : Option Bytes → Decoded
count_of None = Bad
count_of (Some bs) = Count (length bs)

abbrev pub stored : (out : Bytes) (at : ℕ) → Option Bytes → Bytes
stored out at None = out
stored out at (Some bs) = sets out at bs

-- the bytes that an answer says stand in the output at `at`
abbrev pub taken : (out : Bytes) (at : ℕ) → Decoded → Option Bytes
taken out at (Count n) = Some (part out at n)
taken out at Bad = None

-- what is said stands at `at` in the output, which was out and became out'
pub record Stores (says : Option Bytes) (out out' : Bytes) (at : ℕ) (r : Decoded) : Type 0 where
  pub answer : r ≡ count_of (fitting at (length out) says)
  pub output : out' ≡ stored out at (fitting at (length out) says)

abbrev pub Decoding : (text out out' : Bytes) (at : ℕ) → Decoded → Type 0
Decoding text out out' at r = Stores (said text) out out' at r
