-- The stores put the two lowest bytes side by side, as `bytes 2 v` unfolds.
use borrow.Author.Rules.{rules}
use native.Mathlib.Numerals.{add-one}
use native.Mathlib.Omega.{arith}
use lib.ListN.{length-set}
use Rattle.model.specs.Bytes.{bytes}
use Rattle.memory.proofs.numbers.write16.Statement.{statement}
use Rattle.memory.proofs.numbers.write16.Tie as tie

pub write16_spec : {M : Type 1} → statement M
unfolding bytes
write16_spec =
    tie.close
    (tie.spec
    (λ c. search rules)
    (λ c. search rules)
    (λ c. search rules)
    (λ c. search rules)
    (λ c. simp length-set (omega arith))
    (λ c. search rules)
    (λ c. rw add-one))
