-- Numbers in the lines of a text.
use Rattle.std.specs.Prelude.{ℕ, ◌≤◌, ◌≡◌, cond, List, [], ◌∷◌, length, drop, eqb, Option, None, Some, option_map}
use Rattle.model.specs.Bytes.{Bytes}
use Rattle.model.specs.State.{given}
use Rattle.text_words.specs.Words.{before, after}
use Rattle.text_decimals.specs.declared.Parsed.{Parsed}
use Rattle.text_decimals.specs.declared.Parsed.TheVariants.{Number, Bad}
use Rattle.text_decimals.specs.Decimals.{parsed}
use Rattle.workload_plan.specs.declared.lines.Line.{Line}
use Rattle.workload_plan.specs.declared.lines.Seven.{Seven}

abbrev pub newline : ℕ
newline = 10

-- one byte more at the front of the first line
abbrev pub on_first : ℕ → List Bytes → List Bytes
on_first b [] = (b ∷ []) ∷ []
on_first b (l ∷ ls) = (b ∷ l) ∷ ls

-- a newline ends each line; the last one's may be missing
unfoldable pub lines : Bytes → List Bytes
lines [] = []
lines (b ∷ bs) = cond (eqb b newline) ([] ∷ lines bs) (on_first b (lines bs))

-- a number in front of numbers
abbrev pub with_number : Parsed → Option (List ℕ) → Option (List ℕ)
with_number Bad ns = None
with_number (Number n) ns = option_map (λ (l : List ℕ). n ∷ l) ns

-- the numbers of the lines, if each is one
unfoldable pub numbers_of : List Bytes → Option (List ℕ)
numbers_of [] = Some []
numbers_of (l ∷ ls) = with_number (parsed l) (numbers_of ls)

-- if there are n of them
abbrev pub counted : ℕ → Option (List ℕ) → Option (List ℕ)
counted n None = None
counted n (Some ns) = given (eqb (length ns) n) ns

unfoldable pub seven_in : Bytes → Option (List ℕ)
seven_in text = counted 7 (numbers_of (lines text))

-- ---- for the code

-- the line that starts at `at`, and where the next one does
pub record LineAt (s : Bytes) (at : ℕ) (r : Line) : Type 0 where
  pub number : r.number ≡ parsed (before newline (drop at s))
  pub inside : r.next ≤ length s
  pub next : drop r.next s ≡ after newline (drop at s)

abbrev pub as_seven : Seven → Option (List ℕ)
as_seven r = given r.all r.numbers
