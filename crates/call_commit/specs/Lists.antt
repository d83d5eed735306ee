-- What a commit lists.
use Rattle.std.specs.Prelude.{◌≡◌, length}
use Rattle.model.specs.Bytes.{Bytes}
use Rattle.model.specs.Calls.{Outcome, clashes_of}
use Rattle.memory.specs.Spans.{overlay}
use Rattle.cells.specs.Cells.{listed}

-- the output `before` became `after`, with the clashes that the outcome o lists
abbrev pub Lists : (before after : Bytes) → (o : Outcome) → Type 0
Lists before after o = after ≡ overlay (listed (length before) (clashes_of o.answer)) before
