-- By the answer's case: how many versions went, or what `number_of` gives for the refusal.
use borrow.Author.Rules.{rules}
use Rattle.boundary.proofs.thinned.Statement.{statement}
use Rattle.boundary.proofs.thinned.Tie as tie

pub thinned_spec : {M : Type 1} → statement M
thinned_spec =
    tie.close
    (tie.spec
    (λ c. search rules)
    (λ c. search rules)
    (λ c κs. search rules)
    (λ c. rw c.in-Dropped.is)
    (λ c. rw (c.in-Refused.is, c.number_of.ensures)))
