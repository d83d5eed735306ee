-- The first i bytes of the span are zeros.
use Rattle.memory.specs.Spans.{zeros}
use Rattle.memory.proofs.Laws.Spans.{Stored}
use Rattle.memory.proofs.spans.clear.Given as goal

abbrev pub invariant-loop-i : goal.invariant-loop-i
invariant-loop-i l = Stored l.fn.m l.at zeros l.n l.m l.i
