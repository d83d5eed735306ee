-- Key and value lie within the spare memory one behind the other, so their lengths add up within it.
use native.Mathlib.Omega.{arith}
use Rattle.console_arguments.proofs.Laws.Arguments.{both_within}
use borrow.Author.Rules.{rules}
use Rattle.console_calls.proofs.start_key_value.Statement.{statement}
use Rattle.console_calls.proofs.start_key_value.Tie as tie

add_t10 : tie.Need-overflow_add-result
add_t10 c =
    omega (
      arith,
      both_within c.start_key_value.ensures c.in-All.is,
    )

returns_2 : tie.Need-returns
returns_2 c =
    omega (
      arith,
      both_within c.start_key_value.ensures c.in-All.is,
    )

pub start_key_value_spec : {M : Type 1} → statement M
start_key_value_spec =
    tie.close
    (tie.spec
    (λ c κs. search rules)
    (λ c. search rules)
    (λ c. search rules)
    (λ c κs. search rules)
    (λ c. search rules)
    (λ c. search rules)
    add_t10
    (λ c. search rules)
    returns_2)
