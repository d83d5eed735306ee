-- Its length is there or not, and behind it as many bytes or fewer.
use native.Mathlib.Omega.{arith}
use borrow.Author.Rules.{rules}
use Rattle.batch_items.proofs.Laws.Operands.{text_unmeasured, text_cut, text_whole}
use Rattle.batch_items.proofs.operands.text_at.Statement.{statement}
use Rattle.batch_items.proofs.operands.text_at.Tie as tie

returns : tie.Need-returns-then-x-at-lt-COUNT_WIDTH
returns c =
    let args = c.args in
    text_unmeasured args.x.now args.at c.if-x-at-lt-COUNT_WIDTH.true

returns_2 : tie.Need-returns-then-x-from
returns_2 c =
    let args = c.args in
    text_cut args.x.now args.at (omega arith) c.read32-len.ensures c.if-x-from.true

returns_3 : tie.Need-returns
returns_3 c =
    let args = c.args in
    let text = text_whole args.x.now args.at (omega arith) c.read32-len.ensures c.if-x-from.false in
    (text, text.inside)

pub text_at_spec : {M : Type 1} → statement M
text_at_spec =
    tie.close
    (tie.spec
    (λ c. search rules)
    returns
    (λ c κs. search rules)
    (λ c. search rules)
    (λ c. search rules)
    (λ c. search rules)
    returns_2
    (λ c. search rules)
    returns_3)
