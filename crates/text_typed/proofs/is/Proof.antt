-- What is compared so far is the same, so the rest decides; of texts of two lengths none is the other.
use mathlib.Core.Path.{◌≡◌, refl}
use Prim.Native.Nat.{◌-◌, ◌≤◌}
use native.Mathlib.Omega.{arith}
use borrow.Author.Rules.{rules}
use lib.ListN.{length, drop}
use Rattle.text_typed.specs.Typed.{says}
use Rattle.text_typed.proofs.Laws.Typed.{says_lengths, letter_other, letter_same, says_end}
use Rattle.text_typed.proofs.is.Statement.{statement}
use Rattle.text_typed.proofs.is.Tie as tie

abbrev invariant_loop : tie.invariant-loop-i
invariant_loop typed word i₀ i = (i ≤ length word) × (says typed word ≡ says (drop i typed) (drop i word))

abbrev decreases_loop : tie.decreases-loop-i
decreases_loop typed word i₀ i = length word - i

loop_again : tie.Need-loop-i-preserved invariant_loop decreases_loop
loop_again c =
    let inv = c.loop-i.invariant in
    (omega arith, letter_same _ _ _ (omega arith) inv.1 _ (omega arith) c.lower.ensures c.if-lower-word.false)

pub is_spec : {M : Type 1} → statement M
is_spec =
    tie.close
    (tie.spec
    invariant_loop
    decreases_loop
    (λ c. says_lengths _ _ c.if-typed-word.true)
    (λ c. (omega arith, refl))
    (λ c. search rules)
    (λ c κs. search rules)
    (λ c. search rules)
    (λ c. search (rules, letter_other))
    (λ c. search rules)
    (λ c. search rules)
    loop_again
    (λ c. search (rules, says_end)))
