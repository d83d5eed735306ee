-- The commit under the start that its transaction has.
use mathlib.Core.Path.{refl}
use borrow.Author.Rules.{rules}
use Rattle.batch.specs.Making.{Resolved}
use Rattle.batch.proofs.Laws.Records.{asked, told}
use Rattle.batch.proofs.make_commit.Statement.{statement}
use Rattle.batch.proofs.make_commit.Tie as tie

start_for_requires : tie.Need-start_for-start-requires
unfolding Resolved
start_for_requires c κs =
    c.requires.resolved

commit_record_requires : tie.Need-commit_record-requires
commit_record_requires c κs =
    asked _ refl c.requires.doing

returns : tie.Need-returns
returns c =
    told c.start_for-start.ensures refl c.commit_record.ensures

pub make_commit_spec : {M : Type 1} → statement M
make_commit_spec =
    tie.close
    (tie.spec
    start_for_requires
    commit_record_requires
    (λ c. search rules)
    (λ c. search rules)
    (λ c. search rules)
    returns)
