-- The mark is cut, wrong, or that of a kind, whose operands come behind it.
use mathlib.Core.Path.{subst}
use native.Mathlib.Omega.{arith}
use borrow.Author.Rules.{rules}
use Rattle.model.specs.Load.{Parsed}
use Rattle.model_batch.specs.Items.{Item}
use Rattle.batch_items.specs.Clauses.{Decodes}
use Rattle.batch_items.proofs.Laws.Items.{mark_cut, mark_wrong, marked}
use Rattle.batch_items.proofs.items.item_at.Statement.{statement}
use Rattle.batch_items.proofs.items.item_at.Tie as tie

returns : tie.Need-returns-then-x-at-lt-MARK_WIDTH
returns c =
    let args = c.args in
    λ earlier m. mark_cut args.x.now args.at earlier c.if-x-at-lt-MARK_WIDTH.true

returns_2 : tie.Need-returns-in-Wrong
returns_2 c =
    let args = c.args in
    λ earlier m.
    mark_wrong args.x.now args.at earlier (omega arith) c.read16-mark.ensures c.mark_fault.ensures
    c.in-Wrong.is

returns_3 : tie.Need-returns-in-Kind
returns_3 c =
    let args = c.args in
    let x = args.x.now in
    λ earlier m.
    subst (λ (p : Parsed Item). Decodes x p c.operands_at.result)
    (marked x args.at earlier (omega arith) c.read16-mark.ensures c.mark_fault.ensures
    c.in-Kind.is)
    (c.operands_at.ensures earlier m)

pub item_at_spec : {M : Type 1} → statement M
item_at_spec =
    tie.close
    (tie.spec
    (λ c. search rules)
    returns
    (λ c κs. search rules)
    (λ c. search rules)
    (λ c κs. search rules)
    (λ c. search rules)
    (λ c. search rules)
    (λ c. search rules)
    (λ c κs. search rules)
    returns_2
    returns_3)
