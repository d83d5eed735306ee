-- Memory too short for a count is too short for any desks; else the count's byte says what is needed.
use native.Mathlib.Omega.{arith}
use borrow.Author.Rules.{rules}
use borrow.Author.Tests.{lt-leb, le-leb}
use lib.ListN.{length}
use Prim.Native.Nat.{◌<◌}
use Rattle.desk.specs.Layout.{desk_count_place, needed, count_in}
use Rattle.desk_shape.specs.Tests.{count_fits}
use Rattle.desk_shape.proofs.count_fits.Statement.{statement}
use Rattle.desk_shape.proofs.count_fits.Tie as tie

returns : tie.Need-returns-then-m-lt-DESKS_PLACE
unfolding count_fits
returns c =
    let m = c.args.m.now in
    let h : length m < needed (count_in m) = omega arith in
    rw (lt-leb _ _ h)

cast_n : tie.Need-overflow_cast-n
cast_n c = omega (arith, c.shared_slice_known-2-1.given desk_count_place)

desk_place_requires : tie.Need-desk_place-requires
desk_place_requires c κs = omega (arith, c.shared_slice_known-2-1.given desk_count_place)

returns_2 : tie.Need-returns-then-m-desk_place
unfolding count_fits
returns_2 c = rw (lt-leb _ _ (rw c.desk_place.ensures at c.if-m-desk_place.true))

returns_3 : tie.Need-returns
unfolding count_fits
returns_3 c = rw (le-leb _ _ (rw c.desk_place.ensures at c.if-m-desk_place.false))

pub count_fits_spec : {M : Type 1} → statement M
count_fits_spec =
    tie.close (tie.spec returns (λ c. search rules) cast_n desk_place_requires returns_2 returns_3)
