-- A turn of the loop is one field of the run that is still to come.
use Rattle.std.proofs.Common.{◌≡◌, ◌∙◌, sym, arith}
use Rattle.memory.proofs.Laws.Parts.{length_part}
use Rattle.dump_fields.specs.Machine.{machine, last_by}
use Rattle.dump_fields.proofs.Laws.Machine.{wide, turn_short, turn_fault, turn_go}
use Rattle.dump_fields.proofs.Laws.Parser.{machine_parser}
use Rattle.dump_check.proofs.check_dump.Goals as goal
use Rattle.dump_check.proofs.check_dump.Goals.{then-is_key, else-is_key}

pub loop-at-init : goal.loop-at-init
unfolding machine
loop-at-init c = (omega arith, rw c.new-s.ensures)

pub returns-in-Err : goal.returns-in-Err
returns-in-Err c =
    let stepped = rw c.piece-field.ensures at (sym c.in-Err.ensures) in
    λ ds. sym (turn_fault _ _ _ _ _ _ c.width-in-loop-at.ensures c.loop-at.invariant.1 (omega arith) stepped)
    ∙ machine_parser _ _ ds _

pub loop-at-smaller : goal.loop-at-smaller
loop-at-smaller c =
    let width = rw (← c.piece-field.ensures) at (length_part c.args.dump.now c.loop-at.at c.width-in-loop-at.result (omega arith)) in
    omega (arith, wide c.loop-at.p)

pub loop-at-preserved : goal.loop-at-preserved
loop-at-preserved c =
    let field = c.piece-field.result.now in
    let width = rw (← c.piece-field.ensures) at (length_part c.args.dump.now c.loop-at.at c.width-in-loop-at.result (omega arith)) in
    let stepped = rw c.piece-field.ensures at (sym c.in-Ok.ensures) in
    let turned = turn_go _ _ _ _ _ _ c.width-in-loop-at.ensures c.loop-at.invariant.1 (omega arith) stepped _ c.is_key.ensures in
    let last : c.if-is_key.last_key.now ≡ last_by c.is_key.result c.loop-at.last_key.now field =
    elim c.if-is_key.branch [ then-is_key w ↦ rw (w.if-is_key.true, w.last_key-is) | else-is_key w ↦ rw (w.if-is_key.false, w.last_key-is) ] in
    (omega arith, rw (last, width, c.piece-field.ensures) turned)

pub returns-then-is_end : goal.returns-then-is_end
returns-then-is_end c =
    λ ds. rw (← c.is_end.ensures, c.if-is_end.true) at (sym (turn_short _ _ _ _ _ _ c.width.ensures c.loop-at.invariant.1 (omega arith)) ∙ machine_parser _ _ ds _)

pub returns-else-is_end : goal.returns-else-is_end
returns-else-is_end c =
    λ ds. rw (← c.is_end.ensures, c.if-is_end.false) at (sym (turn_short _ _ _ _ _ _ c.width.ensures c.loop-at.invariant.1 (omega arith)) ∙ machine_parser _ _ ds _)
