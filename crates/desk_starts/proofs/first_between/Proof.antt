-- The first j versions lie outside, so the answer is j and as many as lie outside before the next one inside.
use mathlib.Core.Path.{◌≡◌}
use Prim.Native.Nat.{◌+◌, ◌-◌, ◌≤◌}
use native.Mathlib.Omega.{arith}
use borrow.Author.Rules.{rules}
use lib.ListN.{drop, drop_of_length-le}
use Rattle.hall.specs.Layout.{versions_in}
use Rattle.hall.proofs.Laws.Sound.{sound_shaped}
use Rattle.desk_starts.specs.Starts.{outsiders}
use Rattle.desk_starts.proofs.Laws.{out_next}
use Rattle.desk_starts.proofs.first_between.Statement.{statement}
use Rattle.desk_starts.proofs.first_between.Tie as tie

abbrev invariant_loop : tie.invariant-loop-j
invariant_loop hall least greatest n j₀ j =
    (j ≤ n) × (j + outsiders least greatest (drop j (versions_in hall)) ≡ outsiders least greatest (versions_in hall))

abbrev decreases_loop : tie.decreases-loop-j
decreases_loop hall least greatest n j₀ j = n - j

number_at_requires : tie.Need-number_at-requires invariant_loop decreases_loop
number_at_requires c κs =
    (sound_shaped _ c.requires, omega (arith, c.version_count-n.ensures))

returns : tie.Need-returns-then-is_within invariant_loop decreases_loop
returns c =
    let h = rw c.version_count-n.ensures at c.loop-j-test.true in
    let n = c.number_at.ensures in
    rw (out_next _ _ _ _ h, ← n, ← c.is_within.ensures, c.if-is_within.true) at c.loop-j.invariant.1

loop_again : tie.Need-loop-j-preserved invariant_loop decreases_loop
loop_again c =
    let h = rw c.version_count-n.ensures at c.loop-j-test.true in
    let n = c.number_at.ensures in (
      omega arith,
      rw (out_next _ _ _ _ h, ← n, ← c.is_within.ensures, c.if-is_within.false) at c.loop-j.invariant.1,
    )

returns_2 : tie.Need-returns invariant_loop decreases_loop
unfolding outsiders
returns_2 c =
    let h = rw c.version_count-n.ensures at c.loop-j-test.false in
    let e = rw (drop_of_length-le _ h) at c.loop-j.invariant.1 in
    omega (arith, c.loop-j.invariant.0, c.loop-j-test.false)

pub first_between_spec : {M : Type 1} → statement M
first_between_spec =
    tie.close
    (tie.spec
    invariant_loop
    decreases_loop
    (λ c κs. sound_shaped _ c.requires)
    (λ c. (omega arith, omega arith))
    number_at_requires
    (λ c κs. search rules)
    returns
    (λ c. omega arith)
    (λ c. omega arith)
    loop_again
    returns_2)
