-- By the answer's case: a number, none, how many keys clash, or what `number_of` gives for the refusal.
use borrow.Author.Rules.{rules}
use Rattle.boundary.proofs.committed.Statement.{statement}
use Rattle.boundary.proofs.committed.Tie as tie

pub committed_spec : {M : Type 1} → statement M
committed_spec =
    tie.close
    (tie.spec
    (λ c. search rules)
    (λ c. search rules)
    (λ c. search rules)
    (λ c. search rules)
    (λ c κs. search rules)
    (λ c. rw c.in-As.is)
    (λ c. rw c.in-Closed.is)
    (λ c. rw c.in-Conflict.is)
    (λ c. rw (c.in-Refused.is, c.number_of.ensures)))
