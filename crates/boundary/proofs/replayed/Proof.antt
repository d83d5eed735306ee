-- By the answer's case: where it ended or stopped, and why; for any other refusal `number_of` gives the number.
use borrow.Author.Rules.{rules}
use Rattle.boundary.proofs.replayed.Statement.{statement}
use Rattle.boundary.proofs.replayed.Tie as tie

pub replayed_spec : {M : Type 1} → statement M
replayed_spec =
    tie.close
    (tie.spec
    (λ c. search rules)
    (λ c. search rules)
    (λ c. search rules)
    (λ c. search rules)
    (λ c. search rules)
    (λ c κs. search rules)
    (λ c. rw c.in-UpTo.is)
    (λ c. rw c.in-Malformed.is)
    (λ c. rw c.in-NoKeyRoom.is)
    (λ c. rw c.in-NoVersionRoom.is)
    (λ c. rw (c.in-Refused.is, c.number_of.ensures)))
