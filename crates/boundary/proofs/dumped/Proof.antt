-- By the answer's case: how many bytes were written, or what `number_of` gives for the refusal.
use borrow.Author.Rules.{rules}
use Rattle.boundary.proofs.dumped.Statement.{statement}
use Rattle.boundary.proofs.dumped.Tie as tie

pub dumped_spec : {M : Type 1} → statement M
dumped_spec =
    tie.close
    (tie.spec
    (λ c. search rules)
    (λ c. search rules)
    (λ c κs. search rules)
    (λ c. rw c.in-Bytes.is)
    (λ c. rw (c.in-Refused.is, c.number_of.ensures)))
