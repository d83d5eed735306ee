-- The middle key decides which half is left, or is the key; with none left it would go before `lo`.
use Rattle.std.proofs.Common.{arith, sym}
use Rattle.cells.proofs.Laws.Rows.{all_left, none_left, key_ready, found, left_half, right_half}
use Rattle.cells.proofs.rows.seek.Goals as goal

pub loop-lo-init : goal.loop-lo-init
loop-lo-init c = (omega arith, omega arith, all_left _ _ _ _ _)

pub key_in-requires : goal.key_in-requires
key_in-requires c = key_ready _ _ _ _ c.requires.rows _ (omega arith)

pub loop-lo-preserved-in-Less : goal.loop-lo-preserved-in-Less
loop-lo-preserved-in-Less c = (
  omega arith,
  omega arith,
  left_half _ _ _ _ c.requires _ (omega arith) c.args.key.now c.key_in.ensures c.compare.ensures c.loop-lo.invariant.2 c.in-Less.is,
)

pub returns-in-Equal : goal.returns-in-Equal
returns-in-Equal c =
    sym (found _ _ _ _ c.requires _ (omega arith) c.args.key.now c.key_in.ensures c.compare.ensures c.in-Equal.is)

pub loop-lo-preserved : goal.loop-lo-preserved
loop-lo-preserved c = (
  omega arith,
  omega arith,
  right_half _ _ _ _ c.requires _ (omega arith) c.args.key.now c.key_in.ensures c.compare.ensures c.loop-lo.invariant.2 c.in-Greater.is,
)

pub returns : goal.returns
returns c =
    let inv = c.loop-lo.invariant in
    sym (none_left _ _ _ _ c.args.key.now inv.0 inv.1 c.loop-lo-test.false inv.2)
