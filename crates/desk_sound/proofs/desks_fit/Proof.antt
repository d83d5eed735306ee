-- Testing the desks from d on, by the bits left, comes to testing all; one that fails decides.
use mathlib.Core.Path.{◌≡◌, refl}
use Prim.Native.Nat.{◌-◌}
use native.Mathlib.Omega.{arith}
use borrow.Author.Rules.{rules}
use borrow.Author.Tests.{not-true, not-false}
use lib.ListN.{drop}
use Rattle.hall.specs.Layout.{hall_in}
use Rattle.desk.specs.Layout.{desks_in}
use Rattle.desk.proofs.Laws.Desks.{Walking, walk_start, walk_end, walk_below, walk_on}
use Rattle.desk_sound.specs.Tests.{desks_test}
use Rattle.desk_sound.proofs.Laws.{desk_next}
use Rattle.desk_sound.proofs.desks_fit.Statement.{statement}
use Rattle.desk_sound.proofs.desks_fit.Tie as tie

abbrev invariant_loop : tie.invariant-loop-d
invariant_loop hall desk n bits₀ d₀ bits d =
    Walking desk n bits d × (desks_test (hall_in hall) (drop d (desks_in desk)) ≡ desks_test (hall_in hall) (desks_in desk))

abbrev decreases_loop : tie.decreases-loop-d
decreases_loop hall desk n bits₀ d₀ bits d = n - d

desk_fits_requires : tie.Need-desk_fits-requires invariant_loop decreases_loop
desk_fits_requires c κs =
    let w = c.loop-d.invariant.0 in
    record {
      hall = c.requires.0;
      shaped = w.shaped;
      below = walk_below w c.loop-d-test.true;
      bits = w.bits;
    }

returns : tie.Need-returns-then-not-desk_fits invariant_loop decreases_loop
returns c =
    let f = c.desk_fits in
    let i = c.loop-d.invariant in
    let h = c.loop-d-test.true in
    rw (desk_next _ i.0 h f.ensures, not-true f.result (rw c.if-not-desk_fits.true)) at i.1

loop_again : tie.Need-loop-d-preserved invariant_loop decreases_loop
loop_again c =
    let f = c.desk_fits in
    let i = c.loop-d.invariant in
    let h = c.loop-d-test.true in (
      walk_on i.0 h,
      rw (desk_next _ i.0 h f.ensures, not-false f.result (rw c.if-not-desk_fits.false)) at i.1,
    )

returns_2 : tie.Need-returns invariant_loop decreases_loop
unfolding desks_test
returns_2 c = let i = c.loop-d.invariant in rw (walk_end i.0 c.loop-d-test.false) at i.1

pub desks_fit_spec : {M : Type 1} → statement M
desks_fit_spec =
    tie.close
    (tie.spec
    invariant_loop
    decreases_loop
    (λ c κs. search rules)
    (λ c κs. search rules)
    (λ c. (
      walk_start c.requires.1 c.desk_count-n.ensures c.occupied-bits.ensures,
      refl,
    ))
    desk_fits_requires
    returns
    (λ c. omega arith)
    (λ c. omega arith)
    loop_again
    returns_2)
