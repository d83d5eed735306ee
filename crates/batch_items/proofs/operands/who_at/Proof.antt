-- The byte says which of the two stands behind it.
use mathlib.Core.Path.{sym, subst}
use Prim.Native.Nat.{◌+◌}
use native.Mathlib.Omega.{arith}
use lib.ListN.{drop}
use borrow.Author.Rules.{rules}
use Rattle.model.specs.Sizes.{tag_width}
use Rattle.model.specs.Load.{Parsed}
use Rattle.model_batch.specs.Items.{Who}
use Rattle.batch_items.specs.Clauses.{Names, read_start}
use Rattle.batch_items.proofs.Laws.Results.{named_inside}
use Rattle.batch_items.proofs.Laws.Operands.{who_cut, who_started, who_placed, who_wrong}
use Rattle.batch_items.proofs.operands.who_at.Statement.{statement}
use Rattle.batch_items.proofs.operands.who_at.Tie as tie

returns : tie.Need-returns-then-x-at-lt-TAG_WIDTH
returns c =
    (tt, λ earlier m. who_cut c.args.x.now c.args.at earlier c.if-x-at-lt-TAG_WIDTH.true)

returns_2 : tie.Need-returns-then-tag-eq0
returns_2 c =
    let x = c.args.x.now in
    let to = c.args.at + tag_width in (
      named_inside x (read_start to (drop to x)) c.start_at.result c.start_at.ensures,
      λ earlier m.
          subst (λ (p : Parsed Who). Names x p c.start_at.result)
          (sym (who_started x c.args.at earlier (omega arith) c.if-tag-eq0.true)) c.start_at.ensures,
    )

returns_3 : tie.Need-returns-then-tag-eq1
returns_3 c =
    let x = c.args.x.now in (
      c.place_at.ensures.0,
      λ earlier m.
          subst (λ (p : Parsed Who). Names x p c.place_at.result)
          (sym (who_placed x c.args.at earlier (omega arith) c.if-tag-eq1.true)) (c.place_at.ensures.1 earlier m),
    )

returns_4 : tie.Need-returns
returns_4 c = (
  tt,
  λ earlier m.
      who_wrong c.args.x.now c.args.at earlier (omega arith) c.if-tag-eq0.false c.if-tag-eq1.false,
)

pub who_at_spec : {M : Type 1} → statement M
who_at_spec =
    tie.close
    (tie.spec
    (λ c. search rules)
    returns
    (λ c. search rules)
    (λ c. search rules)
    (λ c κs. search rules)
    returns_2
    (λ c κs. search rules)
    returns_3
    returns_4)
