-- Each range of signs has its own offset, and a byte in none of them is no digit.
use native.Mathlib.Omega.{arith}
use borrow.Author.Rules.{rules}
use Rattle.text_hex.proofs.Laws.Hex.{nibble_figure, nibble_upper, nibble_lower, nibble_none}
use Rattle.text_hex.proofs.nibble.Statement.{statement}
use Rattle.text_hex.proofs.nibble.Tie as tie

pub nibble_spec : {M : Type 1} → statement M
nibble_spec =
    tie.close
    (tie.spec
    (λ c. search rules)
    (λ c. search rules)
    (λ c. nibble_figure _ (omega arith) (omega arith))
    (λ c. nibble_upper _ (omega arith) (omega arith))
    (λ c. nibble_lower _ (omega arith) (omega arith))
    (λ c. nibble_none _ (λ f g. omega arith) (λ f g. omega arith) (λ f g. omega arith))
    (λ c. nibble_none _ (λ f g. omega arith) (λ f g. omega arith) (λ f g. omega arith))
    (λ c. nibble_none _ (λ f g. omega arith) (λ f g. omega arith) (λ f g. omega arith))
    (λ c. nibble_none _ (λ f g. omega arith) (λ f g. omega arith) (λ f g. omega arith)))
