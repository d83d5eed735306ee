-- The versions from `from` up to j all stay; the first that goes ends the run, or `to` does.
use Prim.Native.Nat.{◌-◌}
use native.Mathlib.Omega.{arith}
use Rattle.model.specs.Sweeps.{goes}
use Rattle.hall_trim.proofs.Laws.Olders.{Staying, run_start, run_at, run_stays, run_goes, run_whole}
use Rattle.hall_trim.proofs.run_end.Statement.{statement}
use Rattle.hall_trim.proofs.run_end.Tie as tie

abbrev invariant_loop : tie.invariant-loop-j
invariant_loop m i from to cutoff clear starts j₀ j = Staying (goes cutoff starts) m i from to j

abbrev decreases_loop : tie.decreases-loop-j
decreases_loop m i from to cutoff clear starts j₀ j = to - j

pub run_end_spec : {M : Type 1} → statement M
run_end_spec =
    tie.close
    (tie.spec
    invariant_loop
    decreases_loop
    (λ c. run_start c.requires.0)
    (λ c κs. (run_at c.loop-j.invariant (omega arith), c.requires.1))
    (λ c. run_goes c.loop-j.invariant c.does_go.ensures (omega arith) c.if-does_go.true)
    (λ c. omega arith)
    (λ c. omega arith)
    (λ c. run_stays c.loop-j.invariant c.does_go.ensures (omega arith) c.if-does_go.false)
    (λ c. run_whole c.loop-j.invariant (omega arith)))
