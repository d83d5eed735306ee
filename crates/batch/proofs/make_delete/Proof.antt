-- The delete under the start that its transaction has, of the key that stands in the batch.
use mathlib.Core.Path.{ap}
use borrow.Author.Rules.{rules}
use Rattle.model.specs.Calls.{delete}
use Rattle.batch_calls.proofs.Laws.After.{heading}
use Rattle.batch.specs.Making.{Resolved}
use Rattle.batch.proofs.Laws.Records.{told}
use Rattle.batch.proofs.make_delete.Statement.{statement}
use Rattle.batch.proofs.make_delete.Tie as tie

start_for_requires : tie.Need-start_for-start-requires
unfolding Resolved
start_for_requires c κs =
    c.requires.resolved

piece_requires : tie.Need-piece-requires
piece_requires c κs =
    c.requires.spans

delete_record_requires : tie.Need-delete_record-requires
delete_record_requires c κs =
    heading c.requires.doing

returns : tie.Need-returns
returns c =
    told c.start_for-start.ensures (ap delete c.piece.ensures) (c.delete_record.ensures _)

pub make_delete_spec : {M : Type 1} → statement M
make_delete_spec =
    tie.close
    (tie.spec
    start_for_requires
    piece_requires
    delete_record_requires
    (λ c. search rules)
    (λ c. search rules)
    returns)
