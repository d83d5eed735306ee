-- The first i lines are numbers and the rest starts at `at`; a line that is none decides, and so does a rest.
use Prim.Native.Nat.{◌-◌, ◌≤◌}
use mathlib.Core.Path.{refl}
use native.Mathlib.Omega.{arith}
use borrow.Author.Rules.{rules}
use Rattle.workload_plan.proofs.Laws.Lines.{Taken, taken_none, taken_more, taken_bad, taken_all}
use Rattle.workload_plan.proofs.lines.seven_in.Statement.{statement}
use Rattle.workload_plan.proofs.lines.seven_in.Tie as tie

abbrev invariant_loop : tie.invariant-loop-i
invariant_loop text numbers₀ at₀ i₀ numbers at i = (i ≤ 7) × Taken text numbers at i

abbrev decreases_loop : tie.decreases-loop-i
decreases_loop text numbers₀ at₀ i₀ numbers at i = 7 - i

pub seven_in_spec : {M : Type 1} → statement M
seven_in_spec =
    tie.close
    (tie.spec
    invariant_loop
    decreases_loop
    (λ c. (omega arith, taken_none c.args.text.now _ refl))
    (λ c κs. c.loop-i.invariant.1.inside)
    (λ c. search rules)
    (λ c. search rules)
    (λ c. search (rules, taken_bad))
    (λ c. record { fits = omega arith })
    (λ c. omega arith)
    (λ c. record { fits = omega arith })
    (λ c. omega arith)
    (λ c. (omega arith, search (rules, taken_more)))
    (λ c. taken_all _ _ _ _ c.loop-i.invariant.1 (omega arith)))
