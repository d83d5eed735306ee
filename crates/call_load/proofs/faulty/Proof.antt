-- Each fault has an answer of its own.
use borrow.Author.Rules.{rules}
use Rattle.call_load.proofs.faulty.Statement.{statement}
use Rattle.call_load.proofs.faulty.Tie as tie

pub faulty_spec : {M : Type 1} → statement M
faulty_spec =
    tie.close
    (tie.spec
    (λ c. search rules)
    (λ c. search rules)
    (λ c. search rules)
    (λ c. rw c.in-CutShort.is)
    (λ c. rw c.in-Malformed.is)
    (λ c. rw c.in-TooBig.is))
