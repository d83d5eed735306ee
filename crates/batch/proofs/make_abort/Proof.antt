-- The abort under the start that its transaction has.
use mathlib.Core.Path.{refl}
use borrow.Author.Rules.{rules}
use Rattle.batch_calls.proofs.Laws.After.{heading}
use Rattle.batch.specs.Making.{Resolved}
use Rattle.batch.proofs.Laws.Records.{told}
use Rattle.batch.proofs.make_abort.Statement.{statement}
use Rattle.batch.proofs.make_abort.Tie as tie

start_for_requires : tie.Need-start_for-start-requires
unfolding Resolved
start_for_requires c κs =
    c.requires.resolved

abort_record_requires : tie.Need-abort_record-requires
abort_record_requires c κs =
    heading c.requires.doing

returns : tie.Need-returns
returns c =
    told c.start_for-start.ensures refl (c.abort_record.ensures _)

pub make_abort_spec : {M : Type 1} → statement M
make_abort_spec =
    tie.close
    (tie.spec
    start_for_requires
    abort_record_requires
    (λ c. search rules)
    (λ c. search rules)
    returns)
