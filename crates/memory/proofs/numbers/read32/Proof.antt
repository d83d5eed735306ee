-- Two 16-bit numbers, the low one first, are the number of their four bytes.
use borrow.Author.Rules.{rules}
use native.Mathlib.Omega.{arith}
use Rattle.memory.proofs.Laws.Parts.{num_join}
use Rattle.memory.proofs.numbers.read32.Statement.{statement}
use Rattle.memory.proofs.numbers.read32.Tie as tie

returns : tie.Need-returns
returns c = num_join _ _ 2 2 (omega arith) c.read16.ensures c.read16-2.ensures

pub read32_spec : {M : Type 1} → statement M
read32_spec =
    tie.close
    (tie.spec
    (λ c κs. search rules)
    (λ c. search rules)
    (λ c. search rules)
    (λ c κs. search rules)
    (λ c. search rules)
    (λ c. search rules)
    (λ c. search rules)
    returns)
