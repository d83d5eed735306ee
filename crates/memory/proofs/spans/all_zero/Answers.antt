-- One more byte goes from what is left to the flag; at the end nothing is left.
use Rattle.memory.proofs.Laws.Spans.{flag_more, flag_end}
use Rattle.memory.proofs.spans.all_zero.Goals as goal

pub loop-b-preserved : goal.loop-b-preserved
loop-b-preserved c = flag_more c.args.s.now c.loop-b.b-index c.loop-b.zero c.loop-b-test.true c.loop-b.invariant

pub returns : goal.returns
returns c = flag_end c.args.s.now c.loop-b.b-index c.loop-b.zero c.loop-b-test.false c.loop-b.invariant
