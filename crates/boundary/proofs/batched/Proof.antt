-- By the answer's case: how much was written, or where a record is wrong; else `number_of` gives the number.
use borrow.Author.Rules.{rules}
use Rattle.boundary.proofs.batched.Statement.{statement}
use Rattle.boundary.proofs.batched.Tie as tie

pub batched_spec : {M : Type 1} → statement M
batched_spec =
    tie.close
    (tie.spec
    (λ c. search rules)
    (λ c. search rules)
    (λ c. search rules)
    (λ c. search rules)
    (λ c κs. search rules)
    (λ c. rw c.in-Answers.is)
    (λ c. rw c.in-Malformed.is)
    (λ c. rw c.in-Reserved.is)
    (λ c. rw (c.in-Refused.is, c.number_of.ensures)))
