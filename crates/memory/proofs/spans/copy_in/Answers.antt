-- No byte stands at first; each turn stores the next, and in the end that is the whole source.
use Rattle.std.proofs.Common.{arith, refl}
use lib.Seq.{length-take-le, take-length}
use Rattle.memory.proofs.Laws.Spans.{take_more, stored_none, stored_more, stored_all}
use Rattle.memory.proofs.spans.copy_in.Goals as goal

pub loop-i-init : goal.loop-i-init
loop-i-init c = stored_none refl

pub loop-i-preserved : goal.loop-i-preserved
loop-i-preserved c =
    let inv = c.loop-i.invariant in
    stored_more _ inv c.loop-i-test.true (length-take-le _ _ inv.below) (take_more _ _ c.loop-i-test.true)

pub returns : goal.returns
returns c = rw (take-length c.args.src.now) at (stored_all c.loop-i.invariant (omega arith))
