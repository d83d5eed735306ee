-- Field by field what `committed` tells, and the length.
use borrow.Author.Rules.{rules}
use Rattle.boundary.proofs.recorded.Statement.{statement}
use Rattle.boundary.proofs.recorded.Tie as tie

pub recorded_spec : {M : Type 1} → statement M
recorded_spec = tie.close (tie.spec (λ c κs. search rules) (λ c. rw c.committed-told.ensures))
