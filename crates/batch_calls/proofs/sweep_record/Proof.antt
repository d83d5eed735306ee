-- `sweep_in` leaves desk memory as it is, and the head tells its answer.
use mathlib.Core.Path.{refl}
use borrow.Author.Rules.{rules}
use Rattle.model_batch.specs.Items.{sweeps, item_kind}
use Rattle.model_batch.specs.Answers.{kind_width}
use Rattle.batch_calls.proofs.Laws.Done.{did_sweep}
use Rattle.batch_calls.proofs.sweep_record.Statement.{statement}
use Rattle.batch_calls.proofs.sweep_record.Tie as tie

returns : tie.Need-returns
unfolding kind_width item_kind
returns c =
    did_sweep (sweeps _) refl c.sweep_in-a.ensures c.tell_swept.ensures

pub sweep_record_spec : {M : Type 1} → statement M
sweep_record_spec =
    tie.close
    (tie.spec
    (λ c κs. search rules)
    (λ c κs. search rules)
    (λ c. search rules)
    (λ c. search rules)
    returns)
