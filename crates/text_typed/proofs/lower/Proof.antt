-- From A to Z the lower-case letter stands 32 further; any other byte stays.
use native.Mathlib.Omega.{arith}
use borrow.Author.Rules.{rules}
use Rattle.text_typed.proofs.Laws.Typed.{lower_upper, lower_other}
use Rattle.text_typed.proofs.lower.Statement.{statement}
use Rattle.text_typed.proofs.lower.Tie as tie

pub lower_spec : {M : Type 1} → statement M
lower_spec =
    tie.close
    (tie.spec
    (λ c. search rules)
    (λ c. lower_upper c.args.c (omega arith) (omega arith))
    (λ c. lower_other c.args.c (λ f g. omega arith))
    (λ c. lower_other c.args.c (λ f g. omega arith)))
