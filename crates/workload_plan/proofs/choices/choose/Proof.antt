-- Three draws, each from the state that the last one left; a fit plan divides by no 0.
use borrow.Author.Rules.{rules}
use native.Mathlib.Omega.{arith}
use Rattle.workload_plan.specs.Choices.{chosen}
use Rattle.workload_plan.proofs.Laws.Fits.{fit}
use Rattle.workload_plan.proofs.choices.choose.Statement.{statement}
use Rattle.workload_plan.proofs.choices.choose.Tie as tie

add_t6 : tie.Need-overflow_add-result
add_t6 c = let bounds = fit _ c.requires in record { fits = omega arith }

rem_t7 : tie.Need-nonzero_rem-result
rem_t7 c = let bounds = fit _ c.requires in omega arith

rem_t8 : tie.Need-nonzero_rem-result-2
rem_t8 c = let bounds = fit _ c.requires in omega arith

pub choose_spec : {M : Type 1} → statement M
unfolding chosen
choose_spec =
    tie.close (tie.spec (λ c κs. search rules) (λ c κs. search rules) (λ c κs. search rules) add_t6 rem_t7 rem_t8
    (λ c. cc))
