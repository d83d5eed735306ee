-- By the answer's case: keys, versions and open desks, or what `number_of` gives for the refusal.
use borrow.Author.Rules.{rules}
use Rattle.boundary.proofs.counted.Statement.{statement}
use Rattle.boundary.proofs.counted.Tie as tie

pub counted_spec : {M : Type 1} → statement M
counted_spec =
    tie.close
    (tie.spec
    (λ c. search rules)
    (λ c. search rules)
    (λ c κs. search rules)
    (λ c. rw c.in-Held.is)
    (λ c. rw (c.in-Refused.is, c.number_of.ensures)))
