-- The workers before i have left: ending with the rest from here is ending with all from the beginning.
use Prim.Native.Nat.{◌-◌, ◌≤◌}
use mathlib.Core.Path.{◌≡◌, refl, ◌∙◌}
use native.Mathlib.Omega.{arith}
use borrow.Author.Rules.{rules}
use lib.ListN.{length}
use Rattle.workload_plan.specs.Input.{worker_limit}
use Rattle.workload_run.proofs.Laws.Run.{Ending, ending_more, ending_all}
use Rattle.workload_run.proofs.run.end.Statement.{statement}
use Rattle.workload_run.proofs.run.end.Tie as tie

abbrev invariant_loop : tie.invariant-loop-i
invariant_loop hall₀ desk₀ seats i₀ hall desk i =
    (i ≤ worker_limit) × ((length hall ≡ length hall₀)
    × ((length desk ≡ length desk₀) × Ending hall₀ desk₀ seats hall desk i))

abbrev decreases_loop : tie.decreases-loop-i
decreases_loop hall₀ desk₀ seats i₀ hall desk i = worker_limit - i

loop_again : tie.Need-loop-i-preserved invariant_loop decreases_loop
loop_again c =
    let inv = c.loop-i.invariant in (
      omega arith,
      (
        c.leave.auto.hall ∙ inv.1.0,
        (
          c.leave.auto.desk ∙ inv.1.1.0,
          ending_more c.args.seats c.loop-i.i inv.1.1.1 _ (omega arith)
              c.leave.ensures,
        ),
      ),
    )

returns : tie.Need-returns invariant_loop decreases_loop
returns c =
    ending_all c.args.seats c.loop-i.i c.loop-i.invariant.1.1.1
    (omega arith)

pub end_spec : {M : Type 1} → statement M
end_spec =
    tie.close
    (tie.spec
    invariant_loop
    decreases_loop
    (λ c. (omega arith, (refl, (refl, λ h₀ d₀ s k. (s, (k, refl))))))
    (λ c. record { fits = omega arith })
    (λ c. omega arith)
    (λ c κs. search rules)
    (λ c. record { fits = omega arith })
    (λ c. omega arith)
    loop_again
    (λ c. c.loop-i.invariant.1.0)
    (λ c. c.loop-i.invariant.1.1.0)
    returns)
