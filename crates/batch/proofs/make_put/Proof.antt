-- The put under the start that its transaction has, of the key and the value that stand in the batch.
use borrow.Author.Rules.{rules}
use Rattle.model.specs.Calls.{put}
use Rattle.batch_calls.proofs.Laws.After.{heading}
use Rattle.batch.specs.Making.{Resolved}
use Rattle.batch.proofs.Laws.Records.{told}
use Rattle.batch.proofs.make_put.Statement.{statement}
use Rattle.batch.proofs.make_put.Tie as tie

start_for_requires : tie.Need-start_for-start-requires
unfolding Resolved
start_for_requires c κs =
    c.requires.resolved

piece_requires : tie.Need-piece-k-requires
piece_requires c κs =
    c.requires.spans.0

piece_requires_2 : tie.Need-piece-requires
piece_requires_2 c κs =
    c.requires.spans.1

put_record_requires : tie.Need-put_record-requires
put_record_requires c κs =
    heading c.requires.doing

returns : tie.Need-returns
returns c =
    told c.start_for-start.ensures (λ i. put (c.piece-k.ensures i) (c.piece.ensures i))
    (c.put_record.ensures _)

pub make_put_spec : {M : Type 1} → statement M
make_put_spec =
    tie.close
    (tie.spec
    start_for_requires
    piece_requires
    piece_requires_2
    put_record_requires
    (λ c. search rules)
    (λ c. search rules)
    returns)
