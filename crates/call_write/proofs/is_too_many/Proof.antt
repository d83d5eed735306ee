-- A write of a key that the desk has takes no more room, so only a new key counts against the limit.
use borrow.Author.Rules.{rules}
use Rattle.call_write.proofs.Laws.{rewrites, adds}
use Rattle.call_write.proofs.is_too_many.Statement.{statement}
use Rattle.call_write.proofs.is_too_many.Tie as tie

pub is_too_many_spec : {M : Type 1} → statement M
is_too_many_spec =
    tie.close
    (tie.spec
    (λ c κs. search rules)
    (λ c. search rules)
    (λ c. search rules)
    (λ c κs. search rules)
    (λ c. rewrites _ _ c.own_write.ensures c.in-At.is)
    (λ c. rw c.write_count.ensures
    (adds _ _ c.own_write.ensures c.in-Before.is)))
