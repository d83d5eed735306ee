-- What stays of the versions before j stands from w0 up to w, and w ≤ j: those from j on are as they were.
use Prim.Native.Nat.{◌-◌}
use native.Mathlib.Omega.{arith}
use Rattle.model.specs.Sweeps.{goes}
use Rattle.hall_rows.proofs.Laws.Held.{holds_length}
use Rattle.hall_trim.proofs.Laws.Olders.{Going, going_start, going_at, going_rises, going_skip, run_fits, going_step, going_end}
use Rattle.hall_trim.proofs.sweep_olders.Statement.{statement}
use Rattle.hall_trim.proofs.sweep_olders.Tie as tie

abbrev invariant_loop : tie.invariant-loop-j
invariant_loop m₀ i from to w0 cutoff clear starts w₀ j₀ m w j = Going (goes cutoff starts) m₀ i from to w0 m w j

abbrev decreases_loop : tie.decreases-loop-j
decreases_loop m₀ i from to w0 cutoff clear starts w₀ j₀ m w j = to - j

gone_end_requires : tie.Need-gone_end-f-requires invariant_loop decreases_loop
gone_end_requires c κs =
    let g = c.loop-j.invariant in
    record { older = going_at g (omega arith); rises = going_rises g; readers = c.requires.1 }

same_length : tie.Need-shape_of-m-then-f-to invariant_loop decreases_loop
same_length c =
    holds_length _ c.requires.0.shaped c.loop-j.invariant.stored.holds

returns : tie.Need-returns-then-f-to invariant_loop decreases_loop
returns c =
    going_end (going_skip c.loop-j.invariant c.gone_end-f.ensures) (omega arith)

run_end_requires : tie.Need-run_end-k-requires invariant_loop decreases_loop
run_end_requires c κs =
    let gone = c.gone_end-f.ensures in
    (going_at (going_skip c.loop-j.invariant gone) (omega (arith, gone.end)), c.requires.1)

copy_versions_requires : tie.Need-copy_versions-w-requires invariant_loop decreases_loop
copy_versions_requires c κs =
    run_fits (going_skip c.loop-j.invariant c.gone_end-f.ensures)
    c.run_end-k.ensures

add_j : tie.Need-overflow_add-j invariant_loop decreases_loop
add_j c =
    omega (arith, c.run_end-k.ensures.end)

loop_less : tie.Need-loop-j-smaller invariant_loop decreases_loop
loop_less c =
    omega (arith, c.run_end-k.ensures.start, c.gone_end-f.ensures.start)

loop_again : tie.Need-loop-j-preserved invariant_loop decreases_loop
loop_again c =
    going_step (going_skip c.loop-j.invariant c.gone_end-f.ensures)
    c.run_end-k.ensures c.copy_versions-w.ensures

same_length_2 : tie.Need-shape_of-m invariant_loop decreases_loop
same_length_2 c =
    holds_length _ c.requires.0.shaped c.loop-j.invariant.stored.holds

pub sweep_olders_spec : {M : Type 1} → statement M
sweep_olders_spec =
    tie.close
    (tie.spec
    invariant_loop
    decreases_loop
    (λ c. going_start c.requires.0)
    gone_end_requires
    same_length
    returns
    run_end_requires
    copy_versions_requires
    add_j
    loop_less
    loop_again
    same_length_2
    (λ c. going_end c.loop-j.invariant (omega arith)))
