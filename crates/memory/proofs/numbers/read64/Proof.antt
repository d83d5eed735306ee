-- Two 32-bit numbers, the low one first, are the number of their eight bytes.
use borrow.Author.Rules.{rules}
use native.Mathlib.Omega.{arith}
use Rattle.memory.proofs.Laws.Parts.{num_join}
use Rattle.memory.proofs.numbers.read64.Statement.{statement}
use Rattle.memory.proofs.numbers.read64.Tie as tie

returns : tie.Need-returns
returns c = num_join _ _ 4 4 (omega arith) c.read32.ensures c.read32-2.ensures

pub read64_spec : {M : Type 1} → statement M
read64_spec =
    tie.close
    (tie.spec
    (λ c κs. search rules)
    (λ c. search rules)
    (λ c. search rules)
    (λ c κs. search rules)
    (λ c. search rules)
    (λ c. search rules)
    (λ c. search rules)
    returns)
