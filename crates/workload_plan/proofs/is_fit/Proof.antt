-- A bound that fails contradicts a fit plan; all bounds together are one.
use borrow.Author.Rules.{rules}
use native.Mathlib.Omega.{arith}
use Rattle.workload_plan.proofs.Laws.Fits.{fit_last, unfit}
use Rattle.workload_plan.proofs.is_fit.Statement.{statement}
use Rattle.workload_plan.proofs.is_fit.Tie as tie

pub is_fit_spec : {M : Type 1} → statement M
is_fit_spec =
    tie.close
    (tie.spec
    (λ c. unfit _ (λ f. omega arith))
    (λ c. unfit _ (λ f. omega arith))
    (λ c. unfit _ (λ f. omega arith))
    (λ c. unfit _ (λ f. omega arith))
    (λ c. search rules)
    (λ c. unfit _ (λ f. omega arith))
    (λ c. fit_last _ (omega arith) (omega arith) (omega arith)))
