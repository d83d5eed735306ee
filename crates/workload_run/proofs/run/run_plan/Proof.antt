-- A refused store ends it; else the operations and then the ends, as the model's run has them.
use mathlib.Core.Path.{ap}
use native.Mathlib.Omega.{arith}
use borrow.Author.Rules.{rules}
use Rattle.answers.specs.Paper.{paper_done}
use Rattle.workload_plan.proofs.Laws.Fits.{fit}
use Rattle.workload_run.proofs.Laws.Works.{ran_refused, ran_done}
use Rattle.workload_run.proofs.run.run_plan.Statement.{statement}
use Rattle.workload_run.proofs.run.run_plan.Tie as tie

returns : tie.Need-returns-in-Refused
returns c =
    ran_refused c.args.p (ap paper_done c.in-Refused.is)
    c.make.ensures

returns_2 : tie.Need-returns
returns_2 c =
    ran_done c.args.p c.operate-seats.result
    (ap paper_done c.in_default.is) c.make.ensures c.operate-seats.ensures.1
    c.end.ensures

pub run_plan_spec : {M : Type 1} → statement M
run_plan_spec =
    tie.close
    (tie.spec
    (λ c. record { fits = omega (arith, fit _ c.requires) })
    (λ c κs. search rules)
    (λ c. search rules)
    (λ c. search rules)
    (λ c. search rules)
    returns
    (λ c. search rules)
    (λ c κs. search rules)
    (λ c κs. search rules)
    (λ c. search rules)
    (λ c. search rules)
    returns_2)
