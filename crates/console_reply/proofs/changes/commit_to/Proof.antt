-- The record's length is at most that of the part that was lent, which lies in the spare memory.
use mathlib.Core.Path.{sym}
use lib.ListN.{length-append}
use lib.Seq.{length-take-le}
use native.Mathlib.Omega.{arith}
use Rattle.console_reply.proofs.Records.{record_within}
use borrow.Author.Rules.{rules}
use Rattle.console_reply.proofs.changes.commit_to.Statement.{statement}
use Rattle.console_reply.proofs.changes.commit_to.Tie as tie

within : tie.Need-slice_bounds-recorded-end-2
within c =
    let few = record_within c.commit_to-r.ensures in
    simp length-append (omega (arith, few))

slice_aggregate_recorded_2 : tie.Need-slice_bounds-recorded-end-3
slice_aggregate_recorded_2 c = sym (length-take-le _ _ (within c))

pub commit_to_spec : {M : Type 1} → statement M
commit_to_spec =
    tie.close
    (tie.spec
    (λ c κs. search rules)
    (λ c. search rules)
    (λ c. search rules)
    (λ c. sym (length-take-le _ _ c.room-n.ensures))
    (λ c κs. search rules)
    (λ c. search rules)
    within
    slice_aggregate_recorded_2
    (λ c κs. search rules)
    (λ c. search rules)
    (λ c. search rules)
    (λ c. search rules)
    (λ c. search rules)
    (λ c. search rules))
