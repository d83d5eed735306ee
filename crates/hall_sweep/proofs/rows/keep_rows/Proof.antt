-- Up to row i what stays is packed in the first w rows; from row i on all is as it was.
use Prim.Native.Nat.{◌-◌}
use mathlib.Core.List.{[]}
use native.Mathlib.Omega.{arith}
use Rattle.model.specs.Sweeps.{goes}
use Rattle.hall_rows.proofs.Laws.Held.{holds_length}
use Rattle.hall_sweep.proofs.Laws.Rows.{Keeping, keep_start, keep_fits, keep_run, keep_step, keep_end}
use Rattle.hall_sweep.proofs.rows.keep_rows.Statement.{statement}
use Rattle.hall_sweep.proofs.rows.keep_rows.Tie as tie

abbrev invariant_loop : tie.invariant-loop-i
invariant_loop m₀ n clear w₀ i₀ m w i = Keeping (goes clear []) m₀ n m w i

abbrev decreases_loop : tie.decreases-loop-i
decreases_loop m₀ n clear w₀ i₀ m w i = n - i

add_i : tie.Need-overflow_add-i invariant_loop decreases_loop
add_i c =
    omega (arith, c.run_end-k.ensures.end)

loop_less : tie.Need-loop-i-smaller invariant_loop decreases_loop
loop_less c =
    omega (arith, c.run_end-k.ensures.start)

loop_again : tie.Need-loop-i-preserved invariant_loop decreases_loop
loop_again c =
    keep_step c.loop-i.invariant c.run_end-k.ensures c.copy_rows-w.ensures

pub keep_rows_spec : {M : Type 1} → statement M
keep_rows_spec =
    tie.close
    (tie.spec
    invariant_loop
    decreases_loop
    (λ c. keep_start c.requires)
    (λ c κs. (keep_fits c.loop-i.invariant, omega arith))
    (λ c κs. keep_run c.loop-i.invariant c.run_end-k.ensures)
    add_i
    loop_less
    loop_again
    (λ c. holds_length _ c.requires.shaped c.loop-i.invariant.holds)
    (λ c. keep_end c.loop-i.invariant (omega arith)))
