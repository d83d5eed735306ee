-- By the answer's case: a value's kind, place and length, or what `number_of` gives for the refusal.
use borrow.Author.Rules.{rules}
use Rattle.boundary.proofs.found.Statement.{statement}
use Rattle.boundary.proofs.found.Tie as tie

pub found_spec : {M : Type 1} → statement M
found_spec =
    tie.close
    (tie.spec
    (λ c. search rules)
    (λ c κs. search rules)
    (λ c. search rules)
    (λ c. search rules)
    (λ c. search rules)
    (λ c. rw (c.in-Refused.is, c.number_of.ensures))
    (λ c. rw c.in-Own.is)
    (λ c. rw c.in-Held.is)
    (λ c. rw c.in-Nothing.is))
