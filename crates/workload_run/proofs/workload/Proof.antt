-- Other input and rooms that do not fit change nothing; else it is the plan's run and the dump of what it leaves.
use mathlib.Core.Path.{sym, ap, ◌∙◌}
use borrow.Author.Rules.{rules}
use Rattle.answers.specs.Paper.{paper_done}
use Rattle.workload_run.proofs.Laws.Works.{plan_fits, works_other, works_unfit, works_ran}
use Rattle.workload_run.proofs.workload.Statement.{statement}
use Rattle.workload_run.proofs.workload.Tie as tie

run_plan_requires : tie.Need-run_plan-requires
run_plan_requires c κs =
    plan_fits _ _ (sym c.in-Plan.is ∙ c.plan_in.ensures)

returns_2 : tie.Need-returns-in-Refused
returns_2 c =
    works_unfit _ _ _ _ _ (sym c.in-Plan.is ∙ c.plan_in.ensures) _ _
    (ap paper_done c.in-Refused.is) c.run_plan.ensures

returns_3 : tie.Need-returns
returns_3 c =
    works_ran _ _ _ _ _ (sym c.in-Plan.is ∙ c.plan_in.ensures) _ _ c.dump.result
    (ap paper_done c.in_default-run_plan.is) c.run_plan.ensures c.dump.ensures

pub workload_spec : {M : Type 1} → statement M
workload_spec =
    tie.close
    (tie.spec
    (λ c κs. search rules)
    (λ c. search rules)
    (λ c. search rules)
    (λ c. works_other _ _ _ _ (sym c.in_default.is ∙ c.plan_in.ensures))
    run_plan_requires
    (λ c. search rules)
    (λ c. search rules)
    (λ c. search rules)
    returns_2
    (λ c. search rules)
    (λ c κs. search rules)
    (λ c. search rules)
    (λ c. search rules)
    (λ c. search rules)
    returns_3)
