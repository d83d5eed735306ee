-- What `decode` counts lies within the spare memory, and the call ends with it.
use native.Mathlib.Omega.{arith}
use Rattle.text_hex.proofs.Laws.Hex.{count_within}
use borrow.Author.Rules.{rules}
use Rattle.console_calls.proofs.with_bytes.Statement.{statement}
use Rattle.console_calls.proofs.with_bytes.Tie as tie

pub with_bytes_spec : {M : Type 1} → statement M
with_bytes_spec =
    tie.close
    (tie.spec
    (λ c κs. search rules)
    (λ c. search rules)
    (λ c. search rules)
    (λ c κs. search rules)
    (λ c. search rules)
    (λ c. search rules)
    (λ c. search rules)
    (λ c. omega (arith, count_within c.decode.ensures c.in-Count.is)))
