-- A turn of the loop takes one field of the filling that is still to come; at its end the header is written.
use Rattle.std.proofs.Common.{◌∙◌, sym, arith}
use Rattle.memory.proofs.Laws.Parts.{length_part}
use Rattle.dump_fields.proofs.Laws.Machine.{wide}
use Rattle.hall_place.proofs.Laws.{rows_ranged}
use Rattle.hall_fill.specs.Filling.{filled}
use Rattle.hall_fill.proofs.Laws.Turns.{turn_end, turn_on_lem}
use Rattle.hall_fill.proofs.fill_rows.Goals as goal

pub loop-at-init : goal.loop-at-init
unfolding filled
loop-at-init c = (omega arith, (omega arith, omega arith), rw c.new-s.ensures)

pub loop-at-smaller : goal.loop-at-smaller
loop-at-smaller c =
    let width = rw (← c.piece-field.ensures) at (length_part c.args.dump.now c.loop-at.at c.width-in-loop-at.result (omega arith)) in
    omega (arith, wide c.loop-at.p)

pub loop-at-preserved : goal.loop-at-preserved
loop-at-preserved c =
    let l = c.loop-at in
    let width = rw (← c.piece-field.ensures) at (length_part c.args.dump.now l.at c.width-in-loop-at.result (omega arith)) in
    let turned = turn_on_lem _ _ _ _ _ _ _ c.width-in-loop-at.ensures l.invariant.2 (omega arith)
    c.piece-field.ensures c.number-n.ensures c.rows_by-g.ensures c.known_after-s.ensures c.target_of.ensures
    c.end_of.ensures c.store.ensures c.phase_after-p.ensures in
    (omega arith, rw c.rows_by-g.ensures (rows_ranged l.p l.g l.invariant.1), rw width turned)

pub returns : goal.returns
returns c =
    let l = c.loop-at in
    c.write_head.ensures
    ∙ rw c.saturating_sub-counter.ensures
    (sym (turn_end _ _ _ _ _ l.at _ c.width.ensures l.invariant.2 (omega arith)))
