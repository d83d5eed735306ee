-- The starts of the desks before d have their marks; a turn sets that of desk d, and none is ever taken away.
use mathlib.Core.Path.{sym, ◌∙◌}
use Prim.Native.Nat.{◌-◌}
use native.Mathlib.Omega.{arith}
use borrow.Author.Rules.{rules}
use lib.ListN.{drop, drop_of_length-le}
use Rattle.desk.specs.Layout.{desks_in}
use Rattle.desk_starts.specs.Marks.{Marked}
use Rattle.desk_starts.proofs.Marking.{mark_none, mark_next}
use Rattle.desk_starts.proofs.marks.mark_starts.Statement.{statement}
use Rattle.desk_starts.proofs.marks.mark_starts.Tie as tie

abbrev invariant_loop : tie.invariant-loop-d
invariant_loop desk marks₀ n d₀ marks d = Marked marks (desks_in desk) (drop d (desks_in desk))

abbrev decreases_loop : tie.decreases-loop-d
decreases_loop desk marks₀ n d₀ marks d = n - d

start_at_requires : tie.Need-start_at-requires invariant_loop decreases_loop
start_at_requires c κs =
    (c.requires.0, rw c.desk_count-n.ensures at c.loop-d-test.true)

loop_again : tie.Need-loop-d-preserved invariant_loop decreases_loop
loop_again c =
    let h = rw c.desk_count-n.ensures at c.loop-d-test.true in
    rw (c.place_of.ensures, c.start_at.ensures) (mark_next _ _ h c.loop-d.invariant)

returns : tie.Need-returns invariant_loop decreases_loop
returns c =
    rw (drop_of_length-le _ (rw c.desk_count-n.ensures at c.loop-d-test.false)) at c.loop-d.invariant

pub mark_starts_spec : {M : Type 1} → statement M
mark_starts_spec =
    tie.close
    (tie.spec
    invariant_loop
    decreases_loop
    (λ c κs. c.requires.0)
    (λ c. mark_none _ c.requires.1)
    start_at_requires
    (λ c κs. search rules)
    (λ c. omega (arith, c.place_of.ensures, c.loop-d.invariant.long))
    (λ c. omega arith)
    (λ c. omega arith)
    loop_again
    (λ c. c.loop-d.invariant.long ∙ sym c.requires.1)
    returns)
