-- The low byte and 256 times the high one are the number that both say, and the sum fits 16 bits.
use borrow.Author.Rules.{rules}
use Prim.Native.Nat.{◌+◌}
use native.Mathlib.Omega.{arith}
use Rattle.memory.proofs.Laws.Parts.{num_two}
use Rattle.memory.proofs.numbers.read16.Statement.{statement}
use Rattle.memory.proofs.numbers.read16.Tie as tie

cast_result_2 : tie.Need-overflow_cast-result-2
cast_result_2 c = omega (arith, c.shared_slice_known-2-1.given (c.args.at + 1))

mul_result : tie.Need-overflow_mul-result
mul_result c = omega (arith, c.shared_slice_known-2-1.given (c.args.at + 1))

add_result_2 : tie.Need-overflow_add-result-2
add_result_2 c =
    let at = c.args.at in
    omega (arith, c.shared_slice_known-1.given at, c.shared_slice_known-2-1.given (at + 1))

pub read16_spec : {M : Type 1} → statement M
read16_spec =
    tie.close
    (tie.spec
    (λ c. search rules)
    (λ c. omega (arith, c.shared_slice_known-1.given c.args.at))
    (λ c. search rules)
    (λ c. search rules)
    cast_result_2
    mul_result
    add_result_2
    (λ c. num_two _ _ c.requires))
