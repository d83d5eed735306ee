-- No byte is cleared at first; each turn clears the next, and in the end that is the whole span.
use Rattle.std.proofs.Common.{arith, refl}
use Rattle.memory.proofs.Laws.Spans.{length_zeros, replicate_more, stored_none, stored_more, stored_all}
use Rattle.memory.proofs.spans.clear.Goals as goal

pub loop-i-init : goal.loop-i-init
loop-i-init c = stored_none refl

pub loop-i-preserved : goal.loop-i-preserved
loop-i-preserved c =
    stored_more 0 c.loop-i.invariant c.loop-i-test.true (length_zeros c.loop-i.i) (replicate_more c.loop-i.i 0)

pub returns : goal.returns
returns c = stored_all c.loop-i.invariant (omega arith)
