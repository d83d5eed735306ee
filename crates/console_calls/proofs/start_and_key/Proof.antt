-- The key that the arguments put into the spare memory lies within it, and the call ends with the key.
use native.Mathlib.Omega.{arith}
use Rattle.console_arguments.proofs.Laws.Arguments.{key_within}
use borrow.Author.Rules.{rules}
use Rattle.console_calls.proofs.start_and_key.Statement.{statement}
use Rattle.console_calls.proofs.start_and_key.Tie as tie

returns_2 : tie.Need-returns
returns_2 c =
    omega (
      arith,
      key_within c.start_and_key.ensures c.in-Both.is,
    )

pub start_and_key_spec : {M : Type 1} → statement M
start_and_key_spec =
    tie.close
    (tie.spec
    (λ c κs. search rules)
    (λ c. search rules)
    (λ c. search rules)
    (λ c κs. search rules)
    (λ c. search rules)
    (λ c. search rules)
    (λ c. search rules)
    returns_2)
