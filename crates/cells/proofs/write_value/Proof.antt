-- Tag, length and padded value stand side by side, no store touching the others: the value's cell.
use native.Mathlib.Omega.{arith}
use borrow.Author.Rules.{rules}
use lib.ListN.{length-set}
use Rattle.cells.proofs.Laws.Cells.{value_stored}
use Rattle.cells.proofs.write_value.Statement.{statement}
use Rattle.cells.proofs.write_value.Tie as tie

pad_in_requires : tie.Need-pad_in-requires
pad_in_requires c κs =
    let args = c.args in
    omega (arith, length-set args.m.now args.at 1)

same_length : tie.Need-shape_of-m
same_length c =
    let args = c.args in
    omega (arith, length-set args.m.now args.at 1)

returns : tie.Need-returns
returns c =
    value_stored _ _ _ c.write32.ensures c.pad_in.ensures

pub write_value_spec : {M : Type 1} → statement M
write_value_spec =
    tie.close
    (tie.spec
    (λ c. search rules)
    (λ c. search rules)
    (λ c κs. simp length-set (omega arith))
    (λ c. search rules)
    pad_in_requires
    same_length
    returns)
