-- Eight bytes are there or not.
use native.Mathlib.Omega.{arith}
use borrow.Author.Rules.{rules}
use Rattle.batch_items.proofs.Laws.Operands.{start_cut, start_whole}
use Rattle.batch_items.proofs.operands.start_at.Statement.{statement}
use Rattle.batch_items.proofs.operands.start_at.Tie as tie

returns : tie.Need-returns-then-x-at-lt-NUMBER_WIDTH
returns c =
    let args = c.args in
    start_cut args.x.now args.at c.if-x-at-lt-NUMBER_WIDTH.true

returns_2 : tie.Need-returns
returns_2 c =
    start_whole c.args.x.now c.args.at (omega arith) c.read64.ensures

pub start_at_spec : {M : Type 1} → statement M
start_at_spec =
    tie.close
    (tie.spec
    (λ c. search rules)
    returns
    (λ c κs. search rules)
    (λ c. search rules)
    returns_2)
