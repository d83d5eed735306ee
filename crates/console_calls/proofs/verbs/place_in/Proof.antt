-- `at` is at most one past the table and `place` at most `at`, and `find` counts no further than the table.
use native.Mathlib.Omega.{arith}
use Prim.Native.Nat.{◌+◌, ◌-◌, ◌≤◌}
use borrow.Author.Rules.{rules}
use lib.ListN.{length, length-take, length-drop}
use Rattle.console_calls.proofs.verbs.place_in.Statement.{statement}
use Rattle.console_calls.proofs.verbs.place_in.Tie as tie

abbrev invariant_loop : tie.invariant-loop-at
invariant_loop table word at₀ place₀ at place = (at ≤ length table + 1) × (place ≤ at)

abbrev decreases_loop : tie.decreases-loop-at
decreases_loop table word at₀ place₀ at place = length table - at

pub place_in_spec : {M : Type 1} → statement M
place_in_spec =
    tie.close
    (tie.spec
    invariant_loop
    decreases_loop
    (λ c. search rules)
    (λ c. search rules)
    (λ c. search rules)
    (λ c. search rules)
    (λ c κs. search rules)
    (λ c. omega (arith, simp (length-take, length-drop) at c.find-n.ensures.within))
    (λ c. search rules)
    (λ c. search rules)
    (λ c. omega (arith, simp (length-take, length-drop) at c.find-n.ensures.within))
    (λ c κs. search rules)
    (λ c. search rules)
    (λ c. omega (arith, simp (length-take, length-drop) at c.find-n.ensures.within))
    (λ c. search rules)
    (λ c. search rules)
    (λ c. search (rules, simp (length-take, length-drop) at c.find-n.ensures.within))
    (λ c. search rules))
