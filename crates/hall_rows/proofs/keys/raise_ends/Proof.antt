-- The ends of rows `from` up to i are raised and the others as they were; at i = `to` that is the whole run.
use mathlib.Core.Path.{◌≡◌}
use Prim.Native.Nat.{◌-◌, ◌≤◌}
use native.Mathlib.Omega.{arith}
use Rattle.hall.specs.Layout.{keys_in, versions_in}
use Rattle.hall_rows.specs.Held.{Holds}
use Rattle.hall_rows.specs.Runs.{raised}
use Rattle.hall_rows.proofs.Laws.Held.{holds_length}
use Rattle.hall_rows.proofs.Laws.Ends.{raised_none, raise_asks, raise_next}
use Rattle.hall_rows.proofs.keys.raise_ends.Statement.{statement}
use Rattle.hall_rows.proofs.keys.raise_ends.Tie as tie

abbrev invariant_loop : tie.invariant-loop-i
invariant_loop m₀ from to n i₀ m i = (from ≤ i) × ((i ≤ to) × Holds m₀ (raised from i n (keys_in m₀)) (versions_in m₀) m)

abbrev decreases_loop : tie.decreases-loop-i
decreases_loop m₀ from to n i₀ m i = to - i

loop_holds : tie.Need-loop-i-init invariant_loop decreases_loop
loop_holds c =
    (omega arith, (c.requires.start, raised_none _ c.requires.shaped c.args.from c.args.n))

raise_end_requires : tie.Need-raise_end-requires invariant_loop decreases_loop
raise_end_requires c κs =
    let p = c.requires in
    raise_asks _ p.shaped _ _ c.loop-i.invariant.1.1 c.loop-i.invariant.0 (omega (arith, p.rows))
    (p.low _ c.loop-i.invariant.0 (omega arith))

loop_again : tie.Need-loop-i-preserved invariant_loop decreases_loop
loop_again c =
    let p = c.requires in (
      omega (arith, c.loop-i.invariant.0),
      (
        omega arith,
        raise_next _ p.shaped _ _ c.loop-i.invariant.1.1 c.loop-i.invariant.0 (omega (arith, p.rows))
            c.raise_end.ensures,
      ),
    )

returns : tie.Need-returns invariant_loop decreases_loop
returns c =
    let e : c.loop-i.i ≡ c.args.to = omega (arith, c.loop-i.invariant.1.0) in
    rw e at c.loop-i.invariant.1.1

pub raise_ends_spec : {M : Type 1} → statement M
raise_ends_spec =
    tie.close
    (tie.spec
    invariant_loop
    decreases_loop
    loop_holds
    raise_end_requires
    (λ c. omega arith)
    (λ c. omega arith)
    loop_again
    (λ c. holds_length _ c.requires.shaped c.loop-i.invariant.1.1)
    returns)
