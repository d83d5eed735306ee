-- Item by item the kind that the definition has.
use borrow.Author.Rules.{rules}
use Rattle.model_batch.specs.Items.{act_kind, item_kind}
use Rattle.batch_items.proofs.kinds.kind_of.Statement.{statement}
use Rattle.batch_items.proofs.kinds.kind_of.Tie as tie

pub kind_of_spec : {M : Type 1} → statement M
unfolding item_kind act_kind
kind_of_spec =
    tie.close
    (tie.spec
    (λ c. search rules)
    (λ c. search rules)
    (λ c. search rules)
    (λ c. search rules)
    (λ c. search rules)
    (λ c. search rules)
    (λ c. search rules)
    (λ c x. rw c.in-Begin.is)
    (λ c x. rw c.in-Read.is)
    (λ c x. rw c.in-Put.is)
    (λ c x. rw c.in-Delete.is)
    (λ c x. rw c.in-Commit.is)
    (λ c x. rw c.in-Abort.is)
    (λ c x. rw c.in-Sweep.is))
