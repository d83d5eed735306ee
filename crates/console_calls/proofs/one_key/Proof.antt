-- What `key` counts lies within the spare memory, and the call ends with it.
use native.Mathlib.Omega.{arith}
use Rattle.text_hex.proofs.Laws.Hex.{count_within}
use borrow.Author.Rules.{rules}
use Rattle.console_calls.proofs.one_key.Statement.{statement}
use Rattle.console_calls.proofs.one_key.Tie as tie

pub one_key_spec : {M : Type 1} → statement M
one_key_spec =
    tie.close
    (tie.spec
    (λ c κs. search rules)
    (λ c. search rules)
    (λ c. search rules)
    (λ c κs. search rules)
    (λ c. search rules)
    (λ c. search rules)
    (λ c. search rules)
    (λ c. omega (arith, count_within c.key.ensures c.in-Count.is)))
