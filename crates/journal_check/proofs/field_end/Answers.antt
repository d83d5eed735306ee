-- A field that is too short, or at which the dump's machine stops, has no end; one that it steps over has.
use Rattle.std.proofs.Common.{arith}
use Rattle.journal_check.proofs.Laws.Fields.{short_fails, stepped}
use Rattle.journal_check.proofs.field_end.Goals as goal

pub returns-then-x-at : goal.returns-then-x-at
returns-then-x-at c = short_fails c.args.x.now c.args.at _ _ _ c.width-w.ensures c.if-x-at.true

pub returns-in_err-ok : goal.returns-in_err-ok
returns-in_err-ok c =
    let end = stepped c.args.x.now c.args.at _ _ _ c.width-w.ensures (omega arith) c.piece.ensures c.step.ensures in
    rw c.from_residual.ensures (rw (← c.in_err-ok.ensures.variant) at end)

pub returns : goal.returns
returns c =
    let end = stepped c.args.x.now c.args.at _ _ _ c.width-w.ensures (omega arith) c.piece.ensures c.step.ensures in
    rw (← c.in_ok-ok.ensures.variant) at end
