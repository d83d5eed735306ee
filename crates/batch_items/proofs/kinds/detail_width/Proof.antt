-- A read's width and a commit's, and none of the other kinds has one.
use borrow.Author.Tests.{ne_eqb}
use Rattle.model_batch.specs.Answers.{kind_width}
use Rattle.batch_items.proofs.kinds.detail_width.Statement.{statement}
use Rattle.batch_items.proofs.kinds.detail_width.Tie as tie

pub detail_width_spec : {M : Type 1} → statement M
unfolding kind_width
detail_width_spec =
    tie.close
    (tie.spec
    (λ c. rw c.if-kind-eq-READ.true)
    (λ c. rw c.if-kind-eq-COMMIT.true)
    (λ c. rw (ne_eqb _ 17 c.if-kind-eq-READ.false, ne_eqb _ 20 c.if-kind-eq-COMMIT.false)))
