-- The cutoff of `least` and the desks from d on is that of `limit` and all; at the end no desk is left.
use mathlib.Core.Path.{◌≡◌, refl}
use Prim.Native.Nat.{◌-◌}
use native.Mathlib.Omega.{arith}
use borrow.Author.Rules.{rules}
use lib.ListN.{drop}
use Rattle.model.specs.State.{cutoff}
use Rattle.desk.specs.Layout.{desks_in}
use Rattle.desk.proofs.Laws.Desks.{Walking, walk_start, walk_end, walk_below, walk_asks, walk_on}
use Rattle.desk.proofs.Laws.Starts.{cutoff_step}
use Rattle.desk.proofs.desks.least_start.Statement.{statement}
use Rattle.desk.proofs.desks.least_start.Tie as tie

abbrev invariant_loop : tie.invariant-loop-d
invariant_loop m limit least₀ n bits₀ d₀ least bits d =
    Walking m n bits d × (cutoff least (drop d (desks_in m)) ≡ cutoff limit (desks_in m))

abbrev decreases_loop : tie.decreases-loop-d
decreases_loop m limit least₀ n bits₀ d₀ least bits d = n - d

loop_again : tie.Need-loop-d-preserved invariant_loop decreases_loop
loop_again c =
    let i = c.loop-d.invariant in
    let h = c.loop-d-test.true in
    (walk_on i.0 h, rw (cutoff_step _ _ (walk_below i.0 h) _ c.lesser-least.ensures) at i.1)

returns : tie.Need-returns invariant_loop decreases_loop
unfolding cutoff
returns c = let i = c.loop-d.invariant in rw (walk_end i.0 c.loop-d-test.false) at i.1

pub least_start_spec : {M : Type 1} → statement M
least_start_spec =
    tie.close
    (tie.spec
    invariant_loop
    decreases_loop
    (λ c κs. search rules)
    (λ c κs. search rules)
    (λ c. (walk_start c.requires c.desk_count-n.ensures c.occupied-bits.ensures, refl))
    (λ c κs. walk_asks c.loop-d.invariant.0 c.loop-d-test.true)
    (λ c. omega arith)
    (λ c. omega arith)
    loop_again
    returns)
