-- The first j bytes have moved down; the next one lies above all that was stored, so it is still as it was.
use Rattle.std.proofs.Common.{◌-◌}
use Rattle.model.specs.Bytes.{part}
use Rattle.memory.proofs.Laws.Spans.{Stored}
use Rattle.memory.proofs.spans.close_gap.Given as goal

abbrev pub invariant-loop-j : goal.invariant-loop-j
invariant-loop-j l = Stored l.fn.m l.at (part l.fn.m l.from) (l.end - l.from) l.m l.j
