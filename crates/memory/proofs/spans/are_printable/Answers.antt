-- One more byte goes from what is left to the flag; at the end nothing is left.
use Rattle.std.proofs.Common.{◌∙◌, ◌+◌, get_or, drop}
use Rattle.std.proofs.Math.Bool.{and_assoc, and-true}
use Rattle.model.specs.Sound.{is_printable, are_printable}
use Rattle.memory.proofs.Laws.Spans.{printable_step, printable_end}
use Rattle.memory.proofs.spans.are_printable.Goals as goal

pub loop-b-preserved : goal.loop-b-preserved
loop-b-preserved c =
    let s = c.args.s.now in
    let i = c.loop-b.b-index in
    let passes = is_printable (get_or s i 0) in
    let rest = are_printable (drop (i + 1) s) in
    rw c.is_within-printable.ensures
    (and_assoc c.loop-b.printable passes rest ∙ (rw (printable_step s i c.loop-b-test.true) at c.loop-b.invariant))

pub returns : goal.returns
returns c =
    rw (printable_end c.args.s.now c.loop-b.b-index c.loop-b-test.false, and-true) at c.loop-b.invariant
