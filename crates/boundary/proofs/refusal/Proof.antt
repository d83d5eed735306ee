-- By the answer's case: 0 for done, or what `number_of` gives for the refusal.
use borrow.Author.Rules.{rules}
use Rattle.boundary.proofs.refusal.Statement.{statement}
use Rattle.boundary.proofs.refusal.Tie as tie

pub refusal_spec : {M : Type 1} → statement M
refusal_spec =
    tie.close
    (tie.spec
    (λ c. search rules)
    (λ c. search rules)
    (λ c κs. search rules)
    (λ c. search rules)
    (λ c. rw (c.in-Refused.is, c.number_of.ensures)))
