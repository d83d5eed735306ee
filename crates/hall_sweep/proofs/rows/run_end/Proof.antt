-- No row from `from` up to i goes; the loop ends at one that does, or at n.
use Prim.Native.Nat.{◌-◌}
use mathlib.Core.List.{[]}
use native.Mathlib.Omega.{arith}
use Rattle.model.specs.Sweeps.{goes}
use Rattle.hall_sweep.proofs.Laws.Rows.{Standing, stand_start, stand_at, stand_more, stand_goes, stand_end}
use Rattle.hall_sweep.proofs.rows.run_end.Statement.{statement}
use Rattle.hall_sweep.proofs.rows.run_end.Tie as tie

abbrev invariant_loop : tie.invariant-loop-i
invariant_loop m from n clear i₀ i = Standing (goes clear []) m from n i

abbrev decreases_loop : tie.decreases-loop-i
decreases_loop m from n clear i₀ i = n - i

pub run_end_spec : {M : Type 1} → statement M
run_end_spec =
    tie.close
    (tie.spec
    invariant_loop
    decreases_loop
    (λ c. stand_start c.requires.0 c.requires.1)
    (λ c κs. stand_at c.loop-i.invariant (omega arith))
    (λ c. stand_goes c.loop-i.invariant c.does_go_alone.ensures (omega arith) c.if-does_go_alone.true)
    (λ c. omega arith)
    (λ c. omega arith)
    (λ c. stand_more c.loop-i.invariant c.does_go_alone.ensures (omega arith) c.if-does_go_alone.false)
    (λ c. stand_end c.loop-i.invariant (omega arith)))
