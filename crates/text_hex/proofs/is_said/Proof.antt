-- The text says its pairs just when the flag is up and the rest from i on is pairs; one byte alone must be a dash.
use mathlib.Core.Path.{◌≡◌}
use mathlib.Core.Bool.{◌&&◌}
use Prim.Native.Nat.{◌-◌, ◌≤◌}
use native.Mathlib.Omega.{arith}
use borrow.Author.Rules.{rules}
use lib.ListN.{length, drop}
use Rattle.model.specs.State.{given}
use Rattle.text_hex.specs.Hex.{is_pairs, pairs, said}
use Rattle.text_hex.proofs.Laws.Hex.{said_one, said_other, said_more, said_end}
use Rattle.text_hex.proofs.is_said.Statement.{statement}
use Rattle.text_hex.proofs.is_said.Tie as tie

abbrev invariant_loop : tie.invariant-loop-i
invariant_loop text good₀ i₀ good i = (i ≤ length text) × (said text ≡ given (good && is_pairs (drop i text)) (pairs text))

abbrev decreases_loop : tie.decreases-loop-i
decreases_loop text good₀ i₀ good i = length text - i

loop_again : tie.Need-loop-i-preserved invariant_loop decreases_loop
loop_again c = (
  omega arith,
  rw (c.nibble.ensures, c.nibble-in-loop-i.ensures) (said_more _ _ c.loop-i.good c.loop-i.invariant.1 (omega arith)),
)

pub is_said_spec : {M : Type 1} → statement M
is_said_spec =
    tie.close
    (tie.spec
    invariant_loop
    decreases_loop
    (λ c. search rules)
    (λ c. said_one _ c.if-text-eq1.true)
    (λ c. (omega arith, said_other _ c.if-text-eq1.false))
    (λ c. search rules)
    (λ c. search rules)
    (λ c κs. search rules)
    (λ c. search rules)
    (λ c. search rules)
    (λ c κs. search rules)
    (λ c. search rules)
    (λ c. search rules)
    loop_again
    (λ c. search rules)
    (λ c. said_end _ _ c.loop-i.good c.loop-i.invariant.1 (omega arith)))
