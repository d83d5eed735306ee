-- No byte before i is the mark, so what stands before it is i bytes and what stands before it in the rest.
use mathlib.Core.Path.{◌≡◌}
use Prim.Native.Nat.{◌+◌, ◌-◌, ◌≤◌}
use native.Mathlib.Omega.{arith}
use borrow.Author.Rules.{rules}
use lib.ListN.{length, drop}
use Rattle.text_words.specs.Words.{before}
use Rattle.text_words.proofs.Laws.Words.{at_mark, past_byte, at_end}
use Rattle.text_words.proofs.find.Statement.{statement}
use Rattle.text_words.proofs.find.Tie as tie

abbrev invariant_loop : tie.invariant-loop-i
invariant_loop s mark i₀ i = (i ≤ length s) × (length (before mark s) ≡ i + length (before mark (drop i s)))

abbrev decreases_loop : tie.decreases-loop-i
decreases_loop s mark i₀ i = length s - i

pub find_spec : {M : Type 1} → statement M
find_spec =
    tie.close
    (tie.spec
    invariant_loop
    decreases_loop
    (λ c. (omega arith, omega arith))
    (λ c. omega arith)
    (λ c. search (rules, at_mark))
    (λ c. omega arith)
    (λ c. omega arith)
    (λ c. (omega arith, search (rules, past_byte)))
    (λ c. search (rules, at_end)))
