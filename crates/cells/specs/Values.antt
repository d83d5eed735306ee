-- Where the value of a payload's cell stands.
use Rattle.std.specs.Prelude.{ℕ, ◌+◌, ◌≤◌, cond, length, get_or, eqb, Option, None, Some}
use Rattle.model.specs.Bytes.{Bytes, part}
use Rattle.memory.specs.declared.spans.Span.{Span}
use Rattle.cells.specs.Cells.{value_place, value_length}

-- the place and length of the value in cell c, which stands at `at`
unfoldable pub value_in : (at : ℕ) → (c : Bytes) → Option Span
value_in at c = cond (eqb (get_or c 0 0) 0) None (Some (record { at = at + value_place; len = value_length c }))

-- the bytes of memory m that stand there
abbrev pub bytes_at : (m : Bytes) → Option Span → Option Bytes
bytes_at m (Some s) = Some (part m s.at s.len)
bytes_at m None = None

-- and m has them
abbrev pub Inside : (m : Bytes) → Option Span → Type 0
Inside m (Some s) = s.at + s.len ≤ length m
Inside m None = Unit {0}
