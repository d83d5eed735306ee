-- The read under the start that its transaction has, of the key that stands in the batch.
use mathlib.Core.Path.{ap}
use borrow.Author.Rules.{rules}
use Rattle.model.specs.Calls.{read}
use Rattle.batch.specs.Making.{Resolved}
use Rattle.batch.proofs.Laws.Records.{asked, told}
use Rattle.batch.proofs.make_read.Statement.{statement}
use Rattle.batch.proofs.make_read.Tie as tie

start_for_requires : tie.Need-start_for-start-requires
unfolding Resolved
start_for_requires c κs =
    c.requires.resolved

piece_requires : tie.Need-piece-requires
piece_requires c κs =
    c.requires.spans

read_record_requires : tie.Need-read_record-requires
read_record_requires c κs =
    asked _ (ap read c.piece.ensures) c.requires.doing

returns : tie.Need-returns
returns c =
    told c.start_for-start.ensures (ap read c.piece.ensures) c.read_record.ensures

pub make_read_spec : {M : Type 1} → statement M
make_read_spec =
    tie.close
    (tie.spec
    start_for_requires
    piece_requires
    read_record_requires
    (λ c. search rules)
    returns)
