-- A place whose mark is not zero is that of an earlier begin, and no other is.
use native.Mathlib.Omega.{arith}
use borrow.Author.Rules.{rules}
use Rattle.batch_items.proofs.Laws.Operands.{beyond, place_cut, place_wrong, place_whole}
use Rattle.batch_items.proofs.operands.place_at.Statement.{statement}
use Rattle.batch_items.proofs.operands.place_at.Tie as tie

returns : tie.Need-returns-then-x-at-lt-PLACE_WIDTH
returns c =
    (tt, λ earlier m. place_cut c.args.x.now c.args.at earlier c.if-x-at-lt-PLACE_WIDTH.true)

returns_2 : tie.Need-returns-then-begins-place
returns_2 c = (
  tt,
  λ earlier m.
      place_wrong c.args.x.now c.args.at earlier (omega arith) c.read16-place.ensures m
      (beyond c.args.begins.now c.read16-place.result c.if-begins-place.true),
)

returns_3 : tie.Need-returns-then-begins-place-eq0
returns_3 c = (
  tt,
  λ earlier m.
      place_wrong c.args.x.now c.args.at earlier (omega arith) c.read16-place.ensures m c.if-begins-place-eq0.true,
)

returns_4 : tie.Need-returns
returns_4 c = (
  omega arith,
  λ earlier m.
      place_whole c.args.x.now c.args.at earlier (omega arith) c.read16-place.ensures m c.if-begins-place-eq0.false,
)

pub place_at_spec : {M : Type 1} → statement M
place_at_spec =
    tie.close
    (tie.spec
    (λ c. search rules)
    returns
    (λ c κs. search rules)
    (λ c. search rules)
    returns_2
    (λ c. search rules)
    returns_3
    (λ c. search rules)
    returns_4)
