-- The starts before p are below lo; as they ascend, the first that is not decides.
use Prim.Native.Nat.{◌-◌}
use native.Mathlib.Omega.{arith}
use borrow.Author.Rules.{rules}
use Rattle.hall_rule.proofs.Laws.Rule.{Passed, pass_start, pass_more, pass_found, pass_end}
use Rattle.hall_rule.proofs.clear_from.Statement.{statement}
use Rattle.hall_rule.proofs.clear_from.Tie as tie

abbrev invariant_loop : tie.invariant-loop-p
invariant_loop starts lo cutoff n p₀ p = Passed lo starts p

abbrev decreases_loop : tie.decreases-loop-p
decreases_loop starts lo cutoff n p₀ p = n - p

returns : tie.Need-returns-then-lo-starts invariant_loop decreases_loop
returns c =
    pass_found c.loop-p.invariant _ c.requires (omega arith) (omega arith) c.lesser.ensures

pub clear_from_spec : {M : Type 1} → statement M
clear_from_spec =
    tie.close
    (tie.spec
    invariant_loop
    decreases_loop
    (λ c. pass_start)
    (λ c. search rules)
    (λ c. search rules)
    (λ c. search rules)
    (λ c. search rules)
    (λ c κs. search rules)
    returns
    (λ c. omega arith)
    (λ c. omega arith)
    (λ c. pass_more c.loop-p.invariant (omega arith) (omega arith))
    (λ c. pass_end c.loop-p.invariant _ (omega arith)))
