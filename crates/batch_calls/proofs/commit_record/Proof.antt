-- The clashes fill the part that is lent, and the head, which comes before it, tells the answer.
use mathlib.Core.Path.{refl}
use borrow.Author.Rules.{rules}
use Rattle.model_batch.specs.Items.{act_kind, item_kind}
use Rattle.model_batch.specs.Answers.{kind_width}
use Rattle.batch_calls.proofs.Laws.Done.{did_commit}
use Rattle.batch_calls.proofs.commit_record.Statement.{statement}
use Rattle.batch_calls.proofs.commit_record.Tie as tie

part_commit_listed_end : tie.Need-slice_bounds-commit_listed-end
unfolding kind_width item_kind act_kind
part_commit_listed_end c =
    c.requires.details

returns : tie.Need-returns
returns c =
    did_commit _ c.requires c.commit_listed-a.ensures refl c.tell_committed.ensures

pub commit_record_spec : {M : Type 1} → statement M
commit_record_spec =
    tie.close
    (tie.spec
    (λ c. search rules)
    (λ c. search rules)
    (λ c. search rules)
    part_commit_listed_end
    (λ c κs. search rules)
    (λ c κs. search rules)
    (λ c. search rules)
    (λ c. search rules)
    (λ c. search rules)
    returns)
