-- New keys' writes from j on are in; the `up` that are left go in before row `top`, where as many rows are free.
use Prim.Native.Nat.{◌≤◌}
use mathlib.Core.Path.{sym, ◌∙◌}
use native.Mathlib.Omega.{arith}
use borrow.Author.Rules.{rules}
use lib.ListN.{length}
use Rattle.cells.specs.declared.rows.Place.TheVariants.{Before}
use Rattle.hall_rows.proofs.Laws.Held.{holds_length}
use Rattle.hall_sought.specs.Sought.{writes_in}
use Rattle.hall_merge.proofs.Laws.Entering.{Turn, Grown, EnteringIn, entering_first, entering_skip}
use Rattle.hall_merge.proofs.Laws.Entering.{some, enter_asks, entering_next, entering_last}
use Rattle.hall_merge.proofs.passes.place_new.Statement.{statement}
use Rattle.hall_merge.proofs.passes.place_new.Tie as tie

abbrev invariant_loop : tie.invariant-loop-j
invariant_loop hall₀ desk d number at new top₀ up₀ j₀ hall top up j =
    (j ≤ length (writes_in desk d)) × EnteringIn desk d at number new top₀ j top up hall₀ hall

abbrev decreases_loop : tie.decreases-loop-j
decreases_loop hall₀ desk d number at new top₀ up₀ j₀ hall top up j = j

abbrev grew : tie.At-loop-j invariant_loop decreases_loop → tie.After-grow invariant_loop decreases_loop
grew c = c.before.before.before.before

abbrev keyed : tie.At-loop-j invariant_loop decreases_loop → tie.After-key_count-top invariant_loop decreases_loop
keyed c = (grew c).before.before

abbrev start : tie.At-loop-j invariant_loop decreases_loop → tie.Start invariant_loop decreases_loop
start c = (keyed c).before.before.before.before

-- the loop begins in the tables of the memory that is lent, with `grow`'s rows behind its key rows
grown : (c : tie.At-loop-j invariant_loop decreases_loop)
    → Grown (start c).args.hall.now (start c).args.desk.now (start c).args.d (start c).args.at.now
    (start c).args.new (keyed c).key_count-top.result (grew c).grow.new.m
grown c =
    record {
      count = (keyed c).key_count-top.ensures;
      pass = (start c).requires.pass;
      room = (start c).requires.rows;
      held = (grew c).grow.ensures;
    }

abbrev in_loop : tie.In-Before invariant_loop decreases_loop → tie.At-loop-j invariant_loop decreases_loop
in_loop c = c.before.before.before

turn : (c : tie.In-Before invariant_loop decreases_loop)
    → Turn (start (in_loop c)).args.desk.now (start (in_loop c)).args.d (start (in_loop c)).args.at.now
    (in_loop c).loop-j.j (Before c.in-Before.p)
turn c =
    record {
      some = c.loop-j-test.true;
      within = (in_loop c).loop-j.invariant.0;
      found = sym c.place_at.ensures ∙ c.in-Before.is;
    }

loop_holds : tie.Need-loop-j-init invariant_loop decreases_loop
loop_holds c =
    let wrote = c.write_count-j.ensures in (omega arith, λ m t. entering_first t wrote)

place_at_requires : tie.Need-place_at-requires invariant_loop decreases_loop
place_at_requires c κs = omega (arith, c.loop-j.invariant.0, (grown c.before).pass.sought.enough)

enter_requires : tie.Need-enter-requires invariant_loop decreases_loop
enter_requires c κs =
    let met = c.before.before.before in
    let begun = grown (in_loop met) in
    enter_asks begun ((in_loop met).loop-j.invariant.1 _ begun) (turn met) c.key_at.ensures
    c.payload_at.ensures

sub_up : tie.Need-overflow_sub-up invariant_loop decreases_loop
sub_up c =
    let met = c.before.before.before.before.before.before in
    let begun = grown (in_loop met) in
    some begun ((in_loop met).loop-j.invariant.1 _ begun) (turn met)

loop_again : tie.Need-loop-j-preserved-in-Before invariant_loop decreases_loop
loop_again c =
    let met = c.before.before.before.before.before.before in
    let inv = (in_loop met).loop-j.invariant in (
      omega (arith, inv.0),
      λ m t. entering_next t (inv.1 m t) (turn met) c.key_at.ensures
          c.payload_at.ensures c.enter.ensures,
    )

loop_again_2 : tie.Need-loop-j-preserved invariant_loop decreases_loop
loop_again_2 c =
    let inv = c.loop-j.invariant in (
      omega (arith, inv.0),
      λ m t. entering_skip t (inv.1 m t)
          (record {
            some = c.loop-j-test.true;
            within = inv.0;
            found = sym c.place_at.ensures ∙ c.in_default.is;
          }),
    )

returns : tie.Need-returns invariant_loop decreases_loop
returns c =
    let begun = grown c.before in entering_last begun (c.loop-j.invariant.1 _ begun) c.loop-j-test.false

same_length : tie.Need-shape_of-hall invariant_loop decreases_loop
same_length c = holds_length _ (start c.before).requires.pass.shaped (returns c)

pub place_new_spec : {M : Type 1} → statement M
place_new_spec =
    tie.close
    (tie.spec
    invariant_loop
    decreases_loop
    (λ c κs. search rules)
    (λ c κs. search rules)
    (λ c κs. search rules)
    loop_holds
    (λ c. omega arith)
    place_at_requires
    (λ c. search rules)
    (λ c κs. search (rules, grown))
    (λ c κs. search (rules, grown))
    enter_requires
    sub_up
    (λ c. omega arith)
    loop_again
    (λ c. search rules)
    (λ c. omega arith)
    loop_again_2
    same_length
    returns)
