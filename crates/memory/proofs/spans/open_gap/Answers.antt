-- No byte has moved at first; each turn moves the one below.
use Rattle.std.proofs.Common.{arith, ◌≡◌, ◌-◌, suc}
use Rattle.memory.proofs.Laws.Parts.{part_none}
use Rattle.memory.proofs.Laws.Spans.{up_more}
use Rattle.memory.proofs.spans.open_gap.Goals as goal

pub loop-i-init : goal.loop-i-init
loop-i-init c = (omega arith, rw (part_none _ _ (c.args.end - c.args.end) (omega arith)))

pub loop-i-preserved : goal.loop-i-preserved
loop-i-preserved c =
    let e : suc (c.loop-i.i - 1) ≡ c.loop-i.i = omega arith in
    (omega arith, up_more {d = c.loop-i.m} c.args.m.now (c.loop-i.i - 1) c.args.end c.args.width (omega arith) (omega arith) (rw e c.loop-i.invariant.1))
