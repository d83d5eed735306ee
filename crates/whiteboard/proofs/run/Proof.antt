-- No memory changes its length, and each turn goes on behind its line, so there is less of the script left.
use mathlib.Core.Path.{◌≡◌}
use Prim.Native.Nat.{◌-◌}
use borrow.Author.Rules.{rules}
use lib.ListN.{length}
use Rattle.whiteboard.proofs.run.Statement.{statement}
use Rattle.whiteboard.proofs.run.Tie as tie

abbrev invariant_loop : tie.invariant-loop-at
invariant_loop script hall₀ desk₀ tally₀ at₀ hall desk tally at = (length hall ≡ length hall₀) × (length desk ≡ length desk₀)

abbrev decreases_loop : tie.decreases-loop-at
decreases_loop script hall₀ desk₀ tally₀ at₀ hall desk tally at = length script - at

add_at : tie.Need-overflow_add-at invariant_loop decreases_loop
add_at c = search rules

loop_less : tie.Need-loop-at-smaller invariant_loop decreases_loop
loop_less c = search rules

loop_again : tie.Need-loop-at-preserved invariant_loop decreases_loop
loop_again c = search rules

pub run_spec : {M : Type 1} → statement M
run_spec =
    tie.close
    (tie.spec
    invariant_loop
    decreases_loop
    (λ c κs. search rules)
    (λ c. search rules)
    (λ c. search rules)
    (λ c. search rules)
    (λ c. search rules)
    (λ c κs. search rules)
    (λ c. search rules)
    (λ c. search rules)
    (λ c. search rules)
    (λ c. search rules)
    (λ c κs. search rules)
    (λ c κs. search rules)
    add_at
    loop_less
    loop_again
    (λ c. c.loop-at.invariant.0)
    (λ c. c.loop-at.invariant.1)
    (λ c. tt))
