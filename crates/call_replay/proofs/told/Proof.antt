-- Each way to stop has its answer.
use borrow.Author.Rules.{rules}
use Rattle.call_replay.proofs.told.Statement.{statement}
use Rattle.call_replay.proofs.told.Tie as tie

pub told_spec : {M : Type 1} → statement M
told_spec =
    tie.close
    (tie.spec
    (λ c. search rules)
    (λ c. search rules)
    (λ c. search rules)
    (λ c. search rules)
    (λ c. rw c.in-Ended.is)
    (λ c. rw c.in-Malformed.is)
    (λ c. rw c.in-NoKeyRoom.is)
    (λ c. rw c.in-NoVersionRoom.is))
