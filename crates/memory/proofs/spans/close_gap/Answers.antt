-- No byte has moved at first; each turn moves the next.
use Rattle.std.proofs.Common.{arith, refl}
use Rattle.memory.proofs.Laws.Parts.{part_none}
use Rattle.memory.proofs.Laws.Spans.{stored_none, down_more}
use Rattle.memory.proofs.spans.close_gap.Goals as goal

pub loop-j-init : goal.loop-j-init
loop-j-init c = stored_none (part_none _ _ 0 refl)

pub loop-j-preserved : goal.loop-j-preserved
loop-j-preserved c = down_more (omega arith) (omega arith) c.loop-j.invariant c.loop-j-test.true
