-- Each clash ends within the text.
use Prim.Native.Nat.{◌-◌, ◌≤◌}
use mathlib.Core.Path.{◌≡◌}
use native.Mathlib.Omega.{arith}
use borrow.Author.Rules.{rules}
use lib.ListN.{length}
use Rattle.console_say.proofs.conflict.Statement.{statement}
use Rattle.console_say.proofs.conflict.Tie as tie

abbrev invariant_loop : tie.invariant-loop-i
invariant_loop clashes count text₀ at₀ i₀ text at i = (at ≤ length text) × (length text ≡ length text₀)

abbrev decreases_loop : tie.decreases-loop-i
decreases_loop clashes count text₀ at₀ i₀ text at i = count - i

pub conflict_spec : {M : Type 1} → statement M
conflict_spec =
    tie.close
    (tie.spec
    invariant_loop
    decreases_loop
    (λ c κs. search rules)
    (λ c. search rules)
    (λ c κs. search rules)
    (λ c. omega arith)
    (λ c. omega arith)
    (λ c. search rules)
    (λ c. search rules)
    (λ c. search rules))
