-- The text's seven numbers make the plan, if there are seven and `is_fit` passes it; else it is other input.
use borrow.Author.Rules.{rules}
use borrow.Author.Tests.{not-true, not-false}
use Rattle.memory.proofs.Laws.Tests.{refused, passed}
use Rattle.workload_plan.specs.Input.{plan_of, plan_in}
use Rattle.workload_plan.proofs.plan_in.Statement.{statement}
use Rattle.workload_plan.proofs.plan_in.Tie as tie

returns_2 : tie.Need-returns-then-not-is_fit
unfolding plan_in plan_of
returns_2 c =
    let seven-in = c.seven_in-seven in
    rw (
      ← seven-in.ensures,
      not-false seven-in.result.all (rw c.if-not-seven.false),
      refused c.is_fit.ensures (rw c.if-not-is_fit.true),
    )

returns_3 : tie.Need-returns
unfolding plan_in plan_of
returns_3 c =
    let seven-in = c.seven_in-seven in
    rw (
      ← seven-in.ensures,
      not-false seven-in.result.all (rw c.if-not-seven.false),
      passed c.is_fit.ensures (rw c.if-not-is_fit.false),
    )

pub plan_in_spec : {M : Type 1} → statement M
unfolding plan_in plan_of
plan_in_spec =
    tie.close
    (tie.spec
    (λ c κs. search rules)
    (λ c. let seven-in = c.seven_in-seven in
    rw (← seven-in.ensures, not-true seven-in.result.all (rw c.if-not-seven.true)))
    (λ c. search rules)
    (λ c. search rules)
    (λ c. search rules)
    (λ c. search rules)
    (λ c. search rules)
    (λ c. search rules)
    (λ c. search rules)
    (λ c κs. search rules)
    returns_2
    returns_3)
