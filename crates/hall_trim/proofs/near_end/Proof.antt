-- The successors of the versions from `from` up to j are all near; the first that is not ends the loop, or `to` does.
use Prim.Native.Nat.{◌-◌}
use native.Mathlib.Omega.{arith}
use Rattle.hall_trim.proofs.Laws.Olders.{Nearing, near_start, near_at, near_more}
use Rattle.hall_trim.proofs.near_end.Statement.{statement}
use Rattle.hall_trim.proofs.near_end.Tie as tie

abbrev invariant_loop : tie.invariant-loop-j
invariant_loop m i from to high j₀ j = Nearing m i from to high j

abbrev decreases_loop : tie.decreases-loop-j
decreases_loop m i from to high j₀ j = to - j

pub near_end_spec : {M : Type 1} → statement M
near_end_spec =
    tie.close
    (tie.spec
    invariant_loop
    decreases_loop
    (λ c. near_start c.requires)
    (λ c κs. near_at c.loop-j.invariant (omega arith))
    (λ c. c.loop-j.invariant.near)
    (λ c. omega arith)
    (λ c. omega arith)
    (λ c. near_more c.loop-j.invariant (omega arith) c.next_number.ensures (omega arith))
    (λ c. c.loop-j.invariant.near))
