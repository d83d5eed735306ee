-- By the fault.
use borrow.Author.Rules.{rules}
use Rattle.batch.proofs.wrong_at.Statement.{statement}
use Rattle.batch.proofs.wrong_at.Tie as tie

pub wrong_at_spec : {M : Type 1} → statement M
wrong_at_spec =
    tie.close
    (tie.spec
    (λ c. search rules)
    (λ c. search rules)
    (λ c. rw c.in-Malformed.is)
    (λ c. rw c.in-Reserved.is))
