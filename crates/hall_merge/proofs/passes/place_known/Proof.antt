-- Known keys' writes from j on are in; rows from `row` on are raised, versions from `top` on are `up` rows higher.
use Prim.Native.Nat.{suc, ◌≤◌}
use mathlib.Core.Path.{sym, ◌∙◌}
use native.Mathlib.Omega.{arith}
use borrow.Author.Rules.{rules}
use lib.ListN.{length}
use Rattle.cells.specs.declared.rows.Place.TheVariants.{At}
use Rattle.hall_rows.proofs.Laws.Held.{holds_length}
use Rattle.hall_sought.specs.Sought.{writes_in}
use Rattle.hall_merge.proofs.Laws.Renewing.{Extended, RenewingIn, renewing_first, renewing_skip}
use Rattle.hall_merge.proofs.Laws.Renewing.{some, end_asks, end_fits, renew_asks, raise_asks, renewing_next}
use Rattle.hall_merge.proofs.Laws.Renewing.{last_asks, renewing_last}
use Rattle.hall_merge.proofs.Laws.Entering.{Turn}
use Rattle.hall_merge.proofs.passes.place_known.Statement.{statement}
use Rattle.hall_merge.proofs.passes.place_known.Tie as tie

abbrev invariant_loop : tie.invariant-loop-j
invariant_loop hall₀ desk d number at new count row₀ top₀ j₀ up₀ hall row top j up =
    (j ≤ length (writes_in desk d)) × RenewingIn desk d at number new count top₀ j₀ j row top up hall₀ hall

abbrev decreases_loop : tie.decreases-loop-j
decreases_loop hall₀ desk d number at new count row₀ top₀ j₀ up₀ hall row top j up = j

abbrev grown : tie.At-loop-j invariant_loop decreases_loop → tie.After-grow invariant_loop decreases_loop
grown c = c.before.before.before

abbrev wrote : tie.At-loop-j invariant_loop decreases_loop → tie.After-write_count-j invariant_loop decreases_loop
wrote c = (grown c).before.before

abbrev counted : tie.At-loop-j invariant_loop decreases_loop → tie.After-version_count-top invariant_loop decreases_loop
counted c = (wrote c).before

abbrev keyed : tie.At-loop-j invariant_loop decreases_loop → tie.After-key_count-count invariant_loop decreases_loop
keyed c = (counted c).before

abbrev start : tie.At-loop-j invariant_loop decreases_loop → tie.Start invariant_loop decreases_loop
start c = (keyed c).before.before.before.before

-- the loop begins in the tables of the sound hall memory, with `grow`'s rows behind its versions
extended : (c : tie.At-loop-j invariant_loop decreases_loop)
    → Extended (start c).args.hall.now (start c).args.desk.now (start c).args.d (start c).args.at.now
    (start c).args.new (keyed c).key_count-count.result (counted c).version_count-top.result
    (wrote c).write_count-j.result (grown c).grow.new.m
extended c =
    record {
      known = (start c).requires;
      count = (keyed c).key_count-count.ensures;
      total = (counted c).version_count-top.ensures;
      wrote = (wrote c).write_count-j.ensures;
      held = (grown c).grow.ensures;
    }

abbrev in_loop : tie.In-At invariant_loop decreases_loop → tie.At-loop-j invariant_loop decreases_loop
in_loop c = c.before.before.before

turn : (c : tie.In-At invariant_loop decreases_loop)
    → Turn (start (in_loop c)).args.desk.now (start (in_loop c)).args.d (start (in_loop c)).args.at.now
    (in_loop c).loop-j.j (At c.in-At.p)
turn c =
    record {
      some = c.loop-j-test.true;
      within = (in_loop c).loop-j.invariant.0;
      found = sym c.place_at.ensures ∙ c.in-At.is;
    }

-- there are more rows to raise by than new keys
raises : (c : tie.In-At invariant_loop decreases_loop) → suc (start (in_loop c)).args.new ≤ (in_loop c).loop-j.up
raises c = some (extended (in_loop c)) ((in_loop c).loop-j.invariant.1 _ (extended (in_loop c))) (turn c)

loop_holds : tie.Need-loop-j-init invariant_loop decreases_loop
loop_holds c = (omega (arith, c.write_count-j.ensures), λ m t. renewing_first t)

end_at_requires : tie.Need-end_at-requires invariant_loop decreases_loop
end_at_requires c κs =
    let begun = extended (in_loop c) in
    end_asks begun ((in_loop c).loop-j.invariant.1 _ begun) (turn c)

add_end : tie.Need-overflow_add-end invariant_loop decreases_loop
add_end c =
    let begun = extended (in_loop c.before) in
    omega (arith, end_fits begun ((in_loop c.before).loop-j.invariant.1 _ begun) (turn c.before) c.end_at.ensures)

renew_requires : tie.Need-renew-requires invariant_loop decreases_loop
renew_requires c κs =
    let met = c.before.before.before in
    let begun = extended (in_loop met) in
    renew_asks begun ((in_loop met).loop-j.invariant.1 _ begun) (turn met) c.end_at.ensures
    c.payload_at.ensures

raise_ends_requires : tie.Need-raise_ends-requires invariant_loop decreases_loop
raise_ends_requires c κs =
    let met = c.before.before.before.before.before.before.before in
    let begun = extended (in_loop met) in
    raise_asks begun ((in_loop met).loop-j.invariant.1 _ begun) (turn met) c.end_at.ensures
    c.payload_at.ensures c.renew.ensures

sub_up : tie.Need-overflow_sub-up-in-At invariant_loop decreases_loop
sub_up c =
    omega (arith, raises c.before.before.before.before.before.before.before.before.before.before)

loop_again : tie.Need-loop-j-preserved-in-At invariant_loop decreases_loop
loop_again c =
    let met = c.before.before.before.before.before.before.before.before.before.before in
    let inv = (in_loop met).loop-j.invariant in (
      omega (arith, inv.0),
      λ m t. renewing_next t (inv.1 m t) (turn met) c.end_at.ensures
          c.payload_at.ensures c.renew.ensures c.raise_ends.ensures,
    )

loop_again_2 : tie.Need-loop-j-preserved invariant_loop decreases_loop
loop_again_2 c =
    let inv = c.loop-j.invariant in (
      omega (arith, inv.0),
      λ m t. renewing_skip t (inv.1 m t)
          (record {
            some = c.loop-j-test.true;
            within = inv.0;
            found = sym c.place_at.ensures ∙ c.in_default.is;
          }),
    )

shift_requires : tie.Need-shift-requires invariant_loop decreases_loop
shift_requires c κs =
    let begun = extended c.before.before in
    last_asks begun (c.loop-j.invariant.1 _ begun)

returns : tie.Need-returns invariant_loop decreases_loop
returns c =
    let begun = extended c.before.before.before.before.before in
    renewing_last begun (c.loop-j.invariant.1 _ begun) c.loop-j-test.false
    c.shift.ensures

same_length : tie.Need-shape_of-hall invariant_loop decreases_loop
same_length c = holds_length _ (start c.before.before.before.before.before).requires.pass.shaped (returns c)

pub place_known_spec : {M : Type 1} → statement M
place_known_spec =
    tie.close
    (tie.spec
    invariant_loop
    decreases_loop
    (λ c κs. c.requires.pass.shaped)
    (λ c κs. c.requires.pass.shaped)
    (λ c κs. search rules)
    (λ c κs. search rules)
    loop_holds
    (λ c. omega arith)
    (λ c κs. search (rules, extended))
    (λ c. search rules)
    end_at_requires
    add_end
    (λ c κs. search (rules, extended))
    renew_requires
    (λ c. omega (arith, raises c.before.before.before.before.before.before.before))
    raise_ends_requires
    sub_up
    (λ c. omega arith)
    loop_again
    (λ c. search rules)
    (λ c. omega arith)
    loop_again_2
    shift_requires
    same_length
    returns)
