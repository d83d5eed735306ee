-- Blanks from behind are left away one by one, and the last word ends where it did.
use mathlib.Core.Path.{◌≡◌, refl}
use Prim.Native.Nat.{◌≤◌}
use native.Mathlib.Omega.{arith}
use borrow.Author.Rules.{rules}
use lib.ListN.{length}
use Rattle.text_typed.specs.Typed.{word_end}
use Rattle.text_typed.proofs.Laws.Typed.{end_blank, end_here, end_none}
use Rattle.text_typed.proofs.word_end.Statement.{statement}
use Rattle.text_typed.proofs.word_end.Tie as tie

abbrev invariant_loop : tie.invariant-loop-end
invariant_loop s n end₀ end = (end ≤ length s) × (word_end s n ≡ word_end s end)

abbrev decreases_loop : tie.decreases-loop-end
decreases_loop s n end₀ end = end

pub word_end_spec : {M : Type 1} → statement M
word_end_spec =
    tie.close
    (tie.spec
    invariant_loop
    decreases_loop
    (λ c. (c.requires, refl))
    (λ c. search rules)
    (λ c. search rules)
    (λ c κs. search rules)
    (λ c. record { end = search (rules, end_here); within = search rules })
    (λ c. search rules)
    (λ c. search rules)
    (λ c. (omega arith, search (rules, end_blank)))
    (λ c. record { end = search (rules, end_none); within = search rules }))
