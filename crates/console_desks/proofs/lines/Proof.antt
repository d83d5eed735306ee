-- `line_of` is asked of desks below the count alone, and leaves `at` within the text.
use mathlib.Core.Path.{◌≡◌}
use Prim.Native.Nat.{◌-◌, ◌≤◌}
use native.Mathlib.Omega.{arith}
use borrow.Author.Rules.{rules}
use lib.ListN.{length}
use Rattle.console_desks.proofs.lines.Statement.{statement}
use Rattle.console_desks.proofs.lines.Tie as tie

abbrev invariant_loop : tie.invariant-loop-d
invariant_loop desk text₀ n bits₀ at₀ d₀ text bits at d = (d ≤ n) × ((at ≤ length text) × (length text ≡ length text₀))

abbrev decreases_loop : tie.decreases-loop-d
decreases_loop desk text₀ n bits₀ at₀ d₀ text bits at d = n - d

pub lines_spec : {M : Type 1} → statement M
lines_spec =
    tie.close
    (tie.spec
    invariant_loop
    decreases_loop
    (λ c κs. search rules)
    (λ c κs. search rules)
    (λ c. search rules)
    (λ c κs. search rules)
    (λ c. search rules)
    (λ c. search rules)
    (λ c. (omega arith, (omega arith, omega arith)))
    (λ c. c.loop-d.invariant.1.1)
    (λ c. omega arith))
