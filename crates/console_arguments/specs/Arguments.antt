-- What the words after a line's first say. A line's last argument is all that is left of it:
-- a blank in it makes it bad.
use Rattle.std.specs.Prelude.{ℕ, ◌+◌, ◌≤◌, ◌≡◌, Bool, false, cond, [], ◌∷◌, eqb, leb, length, drop, Option, None, Some, option_map}
use Rattle.model.specs.Bytes.{Bytes, part}
use Rattle.model.specs.State.{given}
use Rattle.text_typed.specs.Typed as typed
use Rattle.text_decimals.specs.Decimals.{parsed}
use Rattle.text_decimals.specs.declared.Parsed.{Parsed}
use Rattle.text_decimals.specs.declared.Parsed.TheVariants.{Number, Bad}
use Rattle.text_hex.specs.Hex.{said, fitting}
use Rattle.console_arguments.specs.declared.TwoNumbers.{TwoNumbers}
use Rattle.console_arguments.specs.declared.TwoNumbers.TheVariants as two
use Rattle.console_arguments.specs.declared.ThreeNumbers.{ThreeNumbers}
use Rattle.console_arguments.specs.declared.ThreeNumbers.TheVariants as three
use Rattle.console_arguments.specs.declared.StartAndKey.{StartAndKey}
use Rattle.console_arguments.specs.declared.StartAndKey.TheVariants as keyed
use Rattle.console_arguments.specs.declared.StartKeyValue.{StartKeyValue}
use Rattle.console_arguments.specs.declared.StartKeyValue.TheVariants as written

-- ---- a number, a key, a value; and what goes on from there, if they are good

abbrev pub quote : ℕ
quote = 39

abbrev pub is_quoted : Bytes → Bool
is_quoted [] = false
is_quoted (c ∷ s) = eqb c quote

-- a text without a blank says itself
unfoldable pub word_said : Bytes → Option Bytes
word_said s = given (leb (length s) (length (typed.first s))) s

-- the key that a text says: the letters behind a quote, or else hex
unfoldable pub key_said : Bytes → Option Bytes
key_said s = cond (is_quoted s) (word_said (drop 1 s)) (said s)

-- a key that a memory of that room can hold
abbrev pub key_in : (room : ℕ) → Bytes → Option Bytes
key_in room s = fitting 0 room (key_said s)

-- a value that it can hold at `at`
abbrev pub value_in : (at room : ℕ) → Bytes → Option Bytes
value_in at room s = fitting at room (said s)

abbrev pub with_number : {A : Type 0} → Parsed → (ℕ → Option A) → Option A
with_number (Number n) f = f n
with_number Bad f = None

abbrev pub with_bytes : {A : Type 0} → Option Bytes → (Bytes → Option A) → Option A
with_bytes (Some b) f = f b
with_bytes None f = None

-- ---- two numbers

unfoldable pub two_numbers : Bytes → Option (ℕ × ℕ)
two_numbers s = with_number (parsed (typed.first s)) (λ a. with_number (parsed (typed.rest s)) (λ b. Some (a, b)))

abbrev pub both_of : TwoNumbers → Option (ℕ × ℕ)
both_of (two.Both a b) = Some (a, b)
both_of two.Bad = None

-- ---- three numbers

unfoldable pub three_numbers : Bytes → Option (ℕ × (ℕ × ℕ))
three_numbers s =
    with_number (parsed (typed.first s)) (λ a. option_map (λ (p : ℕ × ℕ). (a, p)) (two_numbers (typed.rest s)))

abbrev pub all_of : ThreeNumbers → Option (ℕ × (ℕ × ℕ))
all_of (three.All a b c) = Some (a, (b, c))
all_of three.Bad = None

-- ---- a start and a key

unfoldable pub start_and_key : (room : ℕ) → Bytes → Option (ℕ × Bytes)
start_and_key room s =
    with_number (parsed (typed.first s)) (λ t. with_bytes (key_in room (typed.rest s)) (λ k. Some (t, k)))

-- the key stands at the front of the memory m
abbrev pub keyed_of : (m : Bytes) → StartAndKey → Option (ℕ × Bytes)
keyed_of m (keyed.Both t n) = Some (t.0, part m 0 n)
keyed_of m keyed.Bad = None

abbrev pub KeyWithin : (room : ℕ) → StartAndKey → Type 0
KeyWithin room (keyed.Both t n) = n ≤ room
KeyWithin room keyed.Bad = Unit {0}

-- the rest of a line was read as r, with its key in the spare memory, which was m and became m'
pub record Keyed (rest m m' : Bytes) (r : StartAndKey) : Type 0 where
  pub says : keyed_of m' r ≡ start_and_key (length m) rest
  pub within : KeyWithin (length m') r

-- ---- a start, a key and a value

unfoldable pub start_key_value : (room : ℕ) → Bytes → Option (ℕ × (Bytes × Bytes))
start_key_value room s =
    with_number (parsed (typed.first s))
    (λ t. with_bytes (key_in room (typed.first (typed.rest s)))
    (λ k. with_bytes (value_in (length k) room (typed.rest (typed.rest s)))
    (λ v. Some (t, (k, v)))))

-- the key stands at the front of the memory m, the value after it
abbrev pub written_of : (m : Bytes) → StartKeyValue → Option (ℕ × (Bytes × Bytes))
written_of m (written.All t n l) = Some (t.0, (part m 0 n, part m n l))
written_of m written.Bad = None

abbrev pub BothWithin : (room : ℕ) → StartKeyValue → Type 0
BothWithin room (written.All t n l) = n + l ≤ room
BothWithin room written.Bad = Unit {0}

-- the rest of a line was read as r, with key and value in the spare memory, which was m and became m'
pub record Written (rest m m' : Bytes) (r : StartKeyValue) : Type 0 where
  pub says : written_of m' r ≡ start_key_value (length m) rest
  pub within : BothWithin (length m') r
