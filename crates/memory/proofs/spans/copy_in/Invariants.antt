-- The source's first i bytes stand from `at` on.
use Rattle.std.proofs.Common.{length}
use lib.ListN.{take}
use Rattle.memory.proofs.Laws.Spans.{Stored}
use Rattle.memory.proofs.spans.copy_in.Given as goal

abbrev pub invariant-loop-i : goal.invariant-loop-i
invariant-loop-i l = Stored l.fn.dst l.at (λ k. take k l.src) (length l.src) l.dst l.i
