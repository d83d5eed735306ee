-- No desk before d has the start, and `bits` are those of the desks from d on; the first that has it is the answer.
use mathlib.Core.Path.{◌≡◌}
use Prim.Native.Nat.{◌-◌}
use native.Mathlib.Omega.{arith}
use borrow.Author.Rules.{rules}
use lib.ListN.{drop}
use Rattle.desk.specs.Layout.{desks_in}
use Rattle.desk.specs.Shape.{desk_of}
use Rattle.desk.proofs.Laws.Desks.{Walking, walk_start, walk_end, walk_below, walk_asks, walk_on}
use Rattle.desk.proofs.Laws.Starts.{from, from_start, desk_next}
use Rattle.desk.proofs.desks.desk_of.Statement.{statement}
use Rattle.desk.proofs.desks.desk_of.Tie as tie

abbrev invariant_loop : tie.invariant-loop-d
invariant_loop m start n bits₀ d₀ bits d =
    Walking m n bits d × (from d (desk_of start (drop d (desks_in m))) ≡ desk_of start (desks_in m))

abbrev decreases_loop : tie.decreases-loop-d
decreases_loop m start n bits₀ d₀ bits d = n - d

returns : tie.Need-returns-then-is_at invariant_loop decreases_loop
returns c =
    let i = c.loop-d.invariant in
    rw (
      desk_next _ _ (walk_below i.0 c.loop-d-test.true),
      ← c.is_at.ensures,
      c.if-is_at.true,
    ) at i.1

loop_again : tie.Need-loop-d-preserved invariant_loop decreases_loop
loop_again c =
    let i = c.loop-d.invariant in
    let h = c.loop-d-test.true in
    (walk_on i.0 h, rw (desk_next _ _ (walk_below i.0 h), ← c.is_at.ensures, c.if-is_at.false) at i.1)

returns_2 : tie.Need-returns invariant_loop decreases_loop
unfolding desk_of
returns_2 c = let i = c.loop-d.invariant in rw (walk_end i.0 c.loop-d-test.false) at i.1

pub desk_of_spec : {M : Type 1} → statement M
desk_of_spec =
    tie.close
    (tie.spec
    invariant_loop
    decreases_loop
    (λ c κs. search rules)
    (λ c κs. search rules)
    (λ c. (
      walk_start c.requires c.desk_count-n.ensures c.occupied-bits.ensures,
      from_start _,
    ))
    (λ c κs. walk_asks c.loop-d.invariant.0 c.loop-d-test.true)
    returns
    (λ c. omega arith)
    (λ c. omega arith)
    loop_again
    returns_2)
