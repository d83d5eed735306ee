-- Testing the desks from d on by the bits left comes to testing all; past the last desk no bit may be left.
use mathlib.Core.Path.{◌≡◌}
use mathlib.Core.Bool.{true}
use Prim.Native.Nat.{◌+◌, ◌-◌, ◌*◌, ◌≤◌}
use native.Mathlib.Omega.{arith}
use borrow.Author.Rules.{rules}
use lib.ListN.{length}
use Rattle.memory.specs.Rows.{rows}
use Rattle.memory.proofs.Laws.Tests.{refused, passed}
use Rattle.desk.specs.Layout.{desk_width, desks_place, desk_count_place, needed, occupied_in}
use Rattle.desk_shape.specs.Tests.{count_fits, desks_fit, shape_fits}
use Rattle.desk_shape.proofs.Laws.{rows_next, rows_end, rows_first, counted}
use Rattle.desk_shape.proofs.is_shaped.Statement.{statement}
use Rattle.desk_shape.proofs.is_shaped.Tie as tie

abbrev invariant_loop : tie.invariant-loop-d
invariant_loop m n bits₀ d₀ bits d =
    (needed n ≤ length m)
    × (desks_fit bits (rows m (desks_place + desk_width * d) desk_width (n - d))
    ≡ desks_fit (occupied_in m) (rows m desks_place desk_width n))

abbrev decreases_loop : tie.decreases-loop-d
decreases_loop m n bits₀ d₀ bits d = n - d

-- past the first test
fits : (c : tie.Else-not-count_fits invariant_loop decreases_loop) → count_fits c.args.m.now ≡ true
fits c = passed c.count_fits.ensures (rw c.if-not-count_fits.false)

returns : tie.Need-returns-then-not-count_fits invariant_loop decreases_loop
unfolding shape_fits
returns c = rw (refused c.count_fits.ensures (rw c.if-not-count_fits.true))

loop_holds : tie.Need-loop-d-init invariant_loop decreases_loop
loop_holds c = ((counted _ (fits c.before.before)).0, rw (rows_first, c.occupied-bits.ensures))

-- the count is a byte
desk_place_requires : tie.Need-desk_place-requires invariant_loop decreases_loop
desk_place_requires c κs = omega (arith, c.shared_slice_known-2-1.given desk_count_place)

returns_2 : tie.Need-returns-then-not-desk_fits invariant_loop decreases_loop
unfolding shape_fits desks_fit
returns_2 c =
    let t = rw c.desk_place.ensures at c.desk_fits.ensures in
    rw (fits c.before.before.before.before.before.before.before)
    (rw (rows_next _ _ _ _ _ c.loop-d-test.true, refused t (rw c.if-not-desk_fits.true))
    at c.loop-d.invariant.1)

loop_again : tie.Need-loop-d-preserved invariant_loop decreases_loop
unfolding desks_fit
loop_again c =
    let i = c.loop-d.invariant in
    let t = rw c.desk_place.ensures at c.desk_fits.ensures in
    (i.0, rw (rows_next _ _ _ _ _ c.loop-d-test.true, passed t (rw c.if-not-desk_fits.false)) at i.1)

returns_3 : tie.Need-returns invariant_loop decreases_loop
unfolding shape_fits desks_fit
returns_3 c =
    rw (fits c.before.before.before.before)
    (rw (rows_end _ _ _ _ _ c.loop-d-test.false) at c.loop-d.invariant.1)

pub is_shaped_spec : {M : Type 1} → statement M
is_shaped_spec =
    tie.close
    (tie.spec
    invariant_loop
    decreases_loop
    (λ c κs. search rules)
    returns
    (λ c. omega (arith, counted _ (fits c.before)))
    (λ c. omega (arith, c.shared_slice_known-2-1.given desk_count_place))
    (λ c κs. omega (arith, counted _ (fits c.before)))
    loop_holds
    desk_place_requires
    (λ c κs. omega arith)
    returns_2
    (λ c. omega arith)
    (λ c. omega arith)
    loop_again
    returns_3)
