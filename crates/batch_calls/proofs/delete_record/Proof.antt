-- `delete_in` leaves hall memory as it is, and the head tells its answer.
use mathlib.Core.Path.{refl}
use borrow.Author.Rules.{rules}
use Rattle.model.specs.History.{is_commit}
use Rattle.model_batch.specs.Items.{act_kind, item_kind}
use Rattle.model_batch.specs.Answers.{kind_width}
use Rattle.batch_calls.proofs.Laws.Done.{did_act}
use Rattle.batch_calls.proofs.delete_record.Statement.{statement}
use Rattle.batch_calls.proofs.delete_record.Tie as tie

returns : tie.Need-returns
unfolding is_commit kind_width item_kind act_kind
returns c =
    did_act _ refl refl c.delete_in-a.ensures c.tell_done.ensures

pub delete_record_spec : {M : Type 1} → statement M
delete_record_spec =
    tie.close
    (tie.spec
    (λ c κs. search rules)
    (λ c κs. search rules)
    (λ c. search rules)
    (λ c. search rules)
    returns)
