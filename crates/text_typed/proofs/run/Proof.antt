-- The first i bytes are of that kind; the run goes on or ends with the next one.
use mathlib.Core.Path.{◌≡◌}
use Prim.Native.Nat.{◌+◌, ◌-◌, ◌≤◌}
use native.Mathlib.Omega.{arith}
use borrow.Author.Rules.{rules}
use lib.ListN.{length, drop}
use Rattle.text_typed.specs.Typed.{run}
use Rattle.text_typed.proofs.Laws.Typed.{run_stops, run_on, run_ends}
use Rattle.text_typed.proofs.run.Statement.{statement}
use Rattle.text_typed.proofs.run.Tie as tie

abbrev invariant_loop : tie.invariant-loop-i
invariant_loop s blank i₀ i = (i ≤ length s) × (run blank s ≡ i + run blank (drop i s))

abbrev decreases_loop : tie.decreases-loop-i
decreases_loop s blank i₀ i = length s - i

pub run_spec : {M : Type 1} → statement M
run_spec =
    tie.close
    (tie.spec
    invariant_loop
    decreases_loop
    (λ c. (omega arith, omega arith))
    (λ c. search rules)
    (λ c κs. search rules)
    (λ c. search (rules, run_stops))
    (λ c. search rules)
    (λ c. search rules)
    (λ c. (omega arith, search (rules, run_on)))
    (λ c. search (rules, run_ends)))
