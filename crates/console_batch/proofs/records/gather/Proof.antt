-- Each record begins where the one before it ends, within the batch; there are as many kinds and marks as records.
use mathlib.Core.Path.{◌≡◌, refl}
use Prim.Native.Nat.{◌-◌, ◌≤◌, zero-le}
use native.Mathlib.Omega.{arith}
use borrow.Author.Rules.{rules}
use lib.ListN.{length}
use Rattle.console_batch.proofs.records.gather.Statement.{statement}
use Rattle.console_batch.proofs.records.gather.Tie as tie

abbrev invariant_loop : tie.invariant-loop-i
invariant_loop x begins count kinds₀ at₀ i₀ kinds at i = (i ≤ count) × ((at ≤ length x) × (length kinds ≡ length kinds₀))

abbrev decreases_loop : tie.decreases-loop-i
decreases_loop x begins count kinds₀ at₀ i₀ kinds at i = count - i

loop_again : tie.Need-loop-i-preserved invariant_loop decreases_loop
loop_again c = (omega arith, (c.record_at-next.ensures, search rules))

pub gather_spec : {M : Type 1} → statement M
gather_spec =
    tie.close
    (tie.spec
    invariant_loop
    decreases_loop
    (λ c. (zero-le, (zero-le, refl)))
    (λ c κs. omega arith)
    (λ c κs. search rules)
    (λ c. search rules)
    (λ c. omega arith)
    (λ c. search rules)
    (λ c. omega arith)
    loop_again
    (λ c. c.loop-i.invariant.1.1)
    (λ c. search rules))
