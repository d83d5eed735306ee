-- No desk from d up to i has the start, and `rest` are the bits of those from i on; at 0 all of them are free.
use mathlib.Core.Path.{◌≡◌, refl, sym, ◌∙◌}
use native.Mathlib.Omega.{arith}
use borrow.Author.Tests.{eq-eqb, ne_eqb}
use lib.ListN.{length, drop}
use Rattle.model.specs.State.{is_some, writes_of}
use Rattle.desk.specs.Layout.{desks_in}
use Rattle.desk.proofs.Laws.Desks.{Walking, walk_on}
use Rattle.desk_starts.proofs.Laws.{start_next, step_from, step_below, step_end}
use Rattle.desk_starts.proofs.is_start_from.Statement.{statement}
use Rattle.desk_starts.proofs.is_start_from.Tie as tie

abbrev invariant_loop : tie.invariant-loop-rest
invariant_loop desk bits d start rest₀ i₀ rest i =
    Walking desk (length (desks_in desk)) rest i
    × (is_some (writes_of start (drop i (desks_in desk))) ≡ is_some (writes_of start (drop d (desks_in desk))))

abbrev decreases_loop : tie.decreases-loop-rest
decreases_loop desk bits d start rest₀ i₀ rest i = rest

start_at_requires : tie.Need-start_at-requires invariant_loop decreases_loop
start_at_requires c κs =
    let i = c.loop-rest.invariant in
    (i.0.shaped, step_below i.0 c.loop-rest-test.true)

returns : tie.Need-returns-then-start_at-start invariant_loop decreases_loop
returns c =
    let h = step_below c.loop-rest.invariant.0 c.loop-rest-test.true in
    let p = c.requires.positive in
    let e = c.start_at.ensures in
    rw (start_next _ _ _ p h, ← e, eq-eqb _ _ (sym c.if-start_at-start.true)) at c.loop-rest.invariant.1

add_i : tie.Need-overflow_add-i invariant_loop decreases_loop
add_i c =
    let i = c.loop-rest.invariant in
    omega (arith, step_below i.0 c.loop-rest-test.true, i.0.shaped.room.count)

loop_again : tie.Need-loop-rest-preserved invariant_loop decreases_loop
loop_again c =
    let h = step_below c.loop-rest.invariant.0 c.loop-rest-test.true in
    let p = c.requires.positive in
    let e = c.start_at.ensures in (
      walk_on c.loop-rest.invariant.0 h,
      rw (start_next _ _ _ p h, ← e, ne_eqb _ _ (λ q. c.if-start_at-start.false (sym q))) at c.loop-rest.invariant.1,
    )

returns_2 : tie.Need-returns invariant_loop decreases_loop
returns_2 c =
    let i = c.loop-rest.invariant in
    sym (step_end i.0 _ c.loop-rest-test.false) ∙ i.1

pub is_start_from_spec : {M : Type 1} → statement M
is_start_from_spec =
    tie.close
    (tie.spec
    invariant_loop
    decreases_loop
    (λ c. (step_from c.requires.shaped c.requires.bits, refl))
    start_at_requires
    returns
    add_i
    (λ c. omega arith)
    loop_again
    returns_2)
