-- By the answer's case: the cutoff and how many versions went, or what `number_of` gives for the refusal.
use borrow.Author.Rules.{rules}
use Rattle.boundary.proofs.swept.Statement.{statement}
use Rattle.boundary.proofs.swept.Tie as tie

pub swept_spec : {M : Type 1} → statement M
swept_spec =
    tie.close
    (tie.spec
    (λ c. search rules)
    (λ c. search rules)
    (λ c κs. search rules)
    (λ c. rw c.in-At.is)
    (λ c. rw (c.in-Refused.is, c.number_of.ensures)))
