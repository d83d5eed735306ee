-- The versions from `from` up to j all go; the first that stays ends the loop, or `to` does.
use Prim.Native.Nat.{◌-◌}
use native.Mathlib.Omega.{arith}
use Rattle.hall_trim.proofs.Laws.Olders.{Leaving, leave_start, leave_at, leave_row, leave_more, leave_from, leave_past}
use Rattle.hall_trim.proofs.gone_end.Statement.{statement}
use Rattle.hall_trim.proofs.gone_end.Tie as tie

abbrev invariant_loop : tie.invariant-loop-j
invariant_loop m i from to cutoff clear starts high₀ j₀ high j = Leaving cutoff clear starts m i from to high j

abbrev decreases_loop : tie.decreases-loop-j
decreases_loop m i from to cutoff clear starts high₀ j₀ high j = to - j

near_end_requires : tie.Need-near_end-j-requires invariant_loop decreases_loop
near_end_requires c κs =
    let pre = c.requires in leave_from (leave_start pre.older pre.rises pre.readers)

loop_holds : tie.Need-loop-j-init invariant_loop decreases_loop
loop_holds c =
    let pre = c.requires in
    leave_past (leave_start pre.older pre.rises pre.readers) c.near_end-j.ensures

reach_requires : tie.Need-reach-high-requires invariant_loop decreases_loop
reach_requires c κs =
    let g = c.loop-j.invariant in
    let row = leave_row g (omega arith) in
    record { shaped = row.0; below = row.1; upward = g.readers.upward; clear = g.clear (omega arith) }

near_end_requires_2 : tie.Need-near_end-j-requires-in-loop-j invariant_loop decreases_loop
near_end_requires_2 c κs =
    leave_from (leave_more c.loop-j.invariant (omega arith) c.next_number-next.ensures
    c.reach-high.ensures c.goes_within.ensures (rw c.if-not-goes_within.false))

loop_less : tie.Need-loop-j-smaller invariant_loop decreases_loop
loop_less c = omega (arith, c.near_end-j-in-loop-j.ensures.start)

loop_again : tie.Need-loop-j-preserved invariant_loop decreases_loop
loop_again c =
    leave_past
    (leave_more c.loop-j.invariant (omega arith) c.next_number-next.ensures
    c.reach-high.ensures c.goes_within.ensures (rw c.if-not-goes_within.false))
    c.near_end-j-in-loop-j.ensures

pub gone_end_spec : {M : Type 1} → statement M
gone_end_spec =
    tie.close
    (tie.spec
    invariant_loop
    decreases_loop
    near_end_requires
    loop_holds
    (λ c κs. leave_at c.loop-j.invariant (omega arith))
    reach_requires
    (λ c κs. leave_row c.loop-j.invariant (omega arith))
    (λ c. c.loop-j.invariant.gone)
    (λ c. omega arith)
    near_end_requires_2
    loop_less
    loop_again
    (λ c. c.loop-j.invariant.gone))
