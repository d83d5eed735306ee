-- By the answer's case: a fault of the dump has its number and offset; for any other refusal `number_of` gives it.
use borrow.Author.Rules.{rules}
use Rattle.boundary.proofs.loaded.Statement.{statement}
use Rattle.boundary.proofs.loaded.Tie as tie

pub loaded_spec : {M : Type 1} → statement M
loaded_spec =
    tie.close
    (tie.spec
    (λ c. search rules)
    (λ c. search rules)
    (λ c. search rules)
    (λ c. search rules)
    (λ c. search rules)
    (λ c κs. search rules)
    (λ c. rw c.in-Done.is)
    (λ c. rw c.in-CutShort.is)
    (λ c. rw c.in-Malformed.is)
    (λ c. rw c.in-TooBig.is)
    (λ c. rw (c.in-Refused.is, c.number_of.ensures)))
