-- A turn takes one write, whose key the next one comes after.
use Rattle.std.proofs.Common.{◌≡◌, ◌-◌, sym, ◌∙◌, arith}
use Rattle.model.specs.Journal.{read_writes}
use Rattle.journal_check.proofs.Laws.Records.{writes_none, write_inside, writes_more}
use Rattle.journal_check.proofs.writes_end.Goals as goal

pub loop-init : goal.loop-init
loop-init c =
    let n = c.args.n in
    let all : n - 0 ≡ n = omega arith in
    (c.requires, rw all)

pub returns-in_err-to : goal.returns-in_err-to
returns-in_err-to c =
    let l = c.loop in
    rw c.from_residual.ensures
    (writes_none _ _ l.invariant.0 _ c.args.n l.counter c.loop-test.true c.in_err-to.ensures ∙ sym l.invariant.1)

pub read32-requires : goal.read32-requires
read32-requires c =
    let inside = write_inside _ _ c.loop.invariant.0 _ _ _ c.loop-test.true c.in_ok-to.ensures in omega arith

pub piece-last-requires : goal.piece-last-requires
piece-last-requires c =
    let inside = write_inside _ _ c.loop.invariant.0 _ _ _ c.loop-test.true c.in_ok-to.ensures in
    rw c.read32.ensures inside.1

pub loop-preserved : goal.loop-preserved
loop-preserved c =
    let l = c.loop in
    let inside = write_inside _ _ l.invariant.0 _ _ _ c.loop-test.true c.in_ok-to.ensures in (
      inside.0,
      l.invariant.1 ∙ rw c.piece-last.ensures
          (writes_more _ _ l.invariant.0 _ _ _ c.loop-test.true c.in_ok-to.ensures c.read32.ensures),
    )

pub returns : goal.returns
unfolding read_writes
returns c =
    let l = c.loop in
    let none : c.args.n - l.counter ≡ 0 = omega arith in
    sym (rw none at l.invariant.1)
