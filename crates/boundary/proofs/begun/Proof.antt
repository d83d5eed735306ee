-- By the answer's case: a transaction's start and desk, or what `number_of` gives for the refusal.
use borrow.Author.Rules.{rules}
use Rattle.boundary.proofs.begun.Statement.{statement}
use Rattle.boundary.proofs.begun.Tie as tie

pub begun_spec : {M : Type 1} → statement M
begun_spec =
    tie.close
    (tie.spec
    (λ c. search rules)
    (λ c. search rules)
    (λ c κs. search rules)
    (λ c. rw c.in-As.is)
    (λ c. rw (c.in-Refused.is, c.number_of.ensures)))
