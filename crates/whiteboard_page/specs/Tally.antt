-- Which answers are right, and what the page counts.
use Rattle.std.specs.Prelude.{ℕ, ◌+◌, ◌%◌, ◌^◌, Bool, true, false, [], ◌∷◌}
use Rattle.model.specs.Bytes.{Bytes, order, is_same}
use Rattle.whiteboard_page.specs.declared.Tally.{Tally}

-- the answer is the one demanded, byte for byte; where none is demanded, none is right
unfoldable pub is_right : (should was : Bytes) → Bool
is_right [] was = false
is_right (b ∷ s) was = is_same (order (b ∷ s) was)

abbrev pub one : Bool → ℕ
one true = 1
one false = 0

-- every call counts, right or not
abbrev pub of_call : (right : Bool) → Tally
of_call right = record { right = one right; calls = 1; cases = 0 }

-- a sum as u64 has it
abbrev pub sum : (a b : ℕ) → ℕ
sum a b = (a + b) % 2 ^ 64

abbrev pub both : (s t : Tally) → Tally
both s t =
    record { right = sum s.right t.right; calls = sum s.calls t.calls; cases = sum s.cases t.cases }
