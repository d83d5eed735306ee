-- `begin_in` does the call, and the head tells its answer.
use mathlib.Core.Path.{refl}
use borrow.Author.Rules.{rules}
use Rattle.model_batch.specs.Items.{begins, item_kind}
use Rattle.model_batch.specs.Answers.{kind_width}
use Rattle.batch_calls.proofs.Laws.Done.{did_plain}
use Rattle.batch_calls.proofs.begin_record.Statement.{statement}
use Rattle.batch_calls.proofs.begin_record.Tie as tie

returns : tie.Need-returns
unfolding kind_width item_kind
returns c =
    did_plain begins refl c.begin_in-a.ensures c.tell_begun.ensures

pub begin_record_spec : {M : Type 1} → statement M
begin_record_spec =
    tie.close
    (tie.spec
    (λ c κs. search rules)
    (λ c κs. search rules)
    (λ c. search rules)
    (λ c. search rules)
    (λ c. search rules)
    returns)
