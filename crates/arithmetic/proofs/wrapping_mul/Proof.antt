-- Products of halves fit 64 bits; the upper halves' product and the middle one's upper half are multiples of 2^64.
use Rattle.std.proofs.Common.{◌∙◌, rules}
use Rattle.arithmetic.proofs.Laws.Product.{below, wrapped}
use Rattle.arithmetic.proofs.wrapping_mul.Statement.{statement}
use Rattle.arithmetic.proofs.wrapping_mul.Tie as tie

returns : tie.Need-returns
returns c = c.wrapping_add_u64.ensures ∙ wrapped c.args.a c.args.b

pub wrapping_mul_spec : {M : Type 1} → statement M
wrapping_mul_spec =
    tie.close
    (tie.spec
    (λ c. record { fits = below 32 (search rules) (search rules) })
    (λ c. record { fits = below 32 (search rules) (search rules) })
    (λ c. record { fits = below 32 (search rules) (search rules) })
    (λ c. search rules)
    (λ c. search rules)
    (λ c κs. search rules)
    returns)
