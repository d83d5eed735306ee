-- A begin has none, a sweep a limit, any other a transaction and what it does.
use mathlib.Core.Path.{subst}
use native.Mathlib.Omega.{arith}
use borrow.Author.Rules.{rules}
use Rattle.model.specs.Load.{Parsed}
use Rattle.model_batch.specs.Items.{Item}
use Rattle.batch_items.specs.Clauses.{Decodes}
use Rattle.batch_items.proofs.Laws.Results.{named_not, named_as, stops_as}
use Rattle.batch_items.proofs.Laws.Items.{begin_whole, sweep_cut, sweep_whole, act_unnamed, act_named}
use Rattle.batch_items.proofs.items.operands_at.Statement.{statement}
use Rattle.batch_items.proofs.items.operands_at.Tie as tie

returns : tie.Need-returns-then-kind-eq-BEGIN
returns c =
    let args = c.args in
    λ earlier m. (begin_whole args.x.now args.at earlier c.if-kind-eq-BEGIN.true c.requires, tt)

returns_2 : tie.Need-returns-then-x-at-lt-NUMBER_WIDTH
returns_2 c =
    let args = c.args in
    λ earlier m. sweep_cut args.x.now args.at earlier c.if-kind-eq-SWEEP.true c.if-x-at-lt-NUMBER_WIDTH.true

returns_3 : tie.Need-returns-then-kind-eq-SWEEP
returns_3 c =
    let args = c.args in
    λ earlier m. (sweep_whole args.x.now args.at earlier c.if-kind-eq-SWEEP.true (omega arith) c.read64.ensures, tt)

act_at_requires : tie.Need-act_at-requires
act_at_requires c κs =
    let args = c.args in
    stops_as args.x.now c.who_at.ensures.0 c.in-As.is

returns_4 : tie.Need-returns-in-Malformed
returns_4 c =
    let args = c.args in
    let x = args.x.now in
    λ earlier m.
    act_unnamed x args.at earlier c.if-kind-eq-BEGIN.false c.if-kind-eq-SWEEP.false
    (named_not x _ (c.who_at.ensures.1 earlier m) c.in-Malformed.is)

returns_5 : tie.Need-returns-in-As
returns_5 c =
    let args = c.args in
    let x = args.x.now in
    λ earlier m.
    subst (λ (p : Parsed Item). Decodes x p c.act_at.result)
    (act_named x args.at earlier c.if-kind-eq-BEGIN.false c.if-kind-eq-SWEEP.false c.in-As.who
    (named_as x _ (c.who_at.ensures.1 earlier m) c.in-As.is))
    c.act_at.ensures

pub operands_at_spec : {M : Type 1} → statement M
operands_at_spec =
    tie.close
    (tie.spec
    returns
    (λ c. search rules)
    returns_2
    (λ c κs. search rules)
    (λ c. search rules)
    returns_3
    (λ c κs. search rules)
    (λ c. search rules)
    (λ c. search rules)
    act_at_requires
    returns_4
    returns_5)
