-- The greater of `greatest` and the last start of the desks from d on is that of all; at d = n none is left.
use mathlib.Core.Path.{◌≡◌}
use Prim.Native.Nat.{◌-◌, max}
use native.Mathlib.Omega.{arith}
use borrow.Author.Rules.{rules}
use lib.ListN.{drop, drop_of_length-le}
use Rattle.desk.specs.Layout.{desks_in}
use Rattle.desk_starts.specs.Starts.{last_start}
use Rattle.desk_starts.proofs.Laws.{last_next}
use Rattle.desk_starts.proofs.greatest_start.Statement.{statement}
use Rattle.desk_starts.proofs.greatest_start.Tie as tie

abbrev invariant_loop : tie.invariant-loop-d
invariant_loop desk n greatest₀ d₀ greatest d = max greatest (last_start (drop d (desks_in desk))) ≡ last_start (desks_in desk)

abbrev decreases_loop : tie.decreases-loop-d
decreases_loop desk n greatest₀ d₀ greatest d = n - d

start_at_requires : tie.Need-start_at-requires invariant_loop decreases_loop
start_at_requires c κs =
    (c.requires, rw c.desk_count-n.ensures at c.loop-d-test.true)

loop_again : tie.Need-loop-d-preserved invariant_loop decreases_loop
loop_again c =
    let h = rw c.desk_count-n.ensures at c.loop-d-test.true in
    rw (last_next _ _ _ h, ← c.start_at.ensures, ← c.greater-greatest.ensures) at c.loop-d.invariant

returns : tie.Need-returns invariant_loop decreases_loop
unfolding last_start
returns c =
    let e = rw (drop_of_length-le _ (rw c.desk_count-n.ensures at c.loop-d-test.false))
    at c.loop-d.invariant in
    omega arith

pub greatest_start_spec : {M : Type 1} → statement M
greatest_start_spec =
    tie.close
    (tie.spec
    invariant_loop
    decreases_loop
    (λ c κs. search rules)
    (λ c. omega arith)
    start_at_requires
    (λ c κs. search rules)
    (λ c. omega arith)
    (λ c. omega arith)
    loop_again
    returns)
