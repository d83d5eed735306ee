-- By the item's kind its call is made; begin and sweep have no transaction.
use borrow.Author.Rules.{rules}
use Rattle.batch_calls.proofs.Laws.After.{heading}
use Rattle.batch.specs.Making.{call_in}
use Rattle.batch.proofs.make_record.Statement.{statement}
use Rattle.batch.proofs.make_record.Tie as tie

begin_record_requires : tie.Need-begin_record-requires
begin_record_requires c κs =
    heading (rw c.in-Begin.is at c.requires.doing)

make_read_requires : tie.Need-make_read-requires
make_read_requires c κs =
    rw c.in-Read.is at c.requires

make_put_requires : tie.Need-make_put-requires
make_put_requires c κs =
    rw c.in-Put.is at c.requires

make_delete_requires : tie.Need-make_delete-requires
make_delete_requires c κs =
    rw c.in-Delete.is at c.requires

make_commit_requires : tie.Need-make_commit-requires
make_commit_requires c κs =
    rw c.in-Commit.is at c.requires

make_abort_requires : tie.Need-make_abort-requires
make_abort_requires c κs =
    rw c.in-Abort.is at c.requires

sweep_record_requires : tie.Need-sweep_record-requires
sweep_record_requires c κs =
    heading (rw c.in-Sweep.is at c.requires.doing)

returns : tie.Need-returns-in-Begin
unfolding call_in
returns c =
    rw c.in-Begin.is (c.begin_record.ensures _)

returns_2 : tie.Need-returns-in-Read
returns_2 c =
    rw c.in-Read.is c.make_read.ensures

returns_3 : tie.Need-returns-in-Put
returns_3 c =
    rw c.in-Put.is c.make_put.ensures

returns_4 : tie.Need-returns-in-Delete
returns_4 c =
    rw c.in-Delete.is c.make_delete.ensures

returns_5 : tie.Need-returns-in-Commit
returns_5 c =
    rw c.in-Commit.is c.make_commit.ensures

returns_6 : tie.Need-returns-in-Abort
returns_6 c =
    rw c.in-Abort.is c.make_abort.ensures

returns_7 : tie.Need-returns-in-Sweep
unfolding call_in
returns_7 c =
    rw c.in-Sweep.is (c.sweep_record.ensures _)

pub make_record_spec : {M : Type 1} → statement M
make_record_spec =
    tie.close
    (tie.spec
    (λ c. search rules)
    begin_record_requires
    (λ c. search rules)
    make_read_requires
    (λ c. search rules)
    make_put_requires
    (λ c. search rules)
    make_delete_requires
    (λ c. search rules)
    make_commit_requires
    (λ c. search rules)
    make_abort_requires
    (λ c. search rules)
    sweep_record_requires
    (λ c. search rules)
    (λ c. search rules)
    (λ c. search rules)
    returns
    (λ c. search rules)
    (λ c. search rules)
    (λ c. search rules)
    returns_2
    (λ c. search rules)
    (λ c. search rules)
    (λ c. search rules)
    returns_3
    (λ c. search rules)
    (λ c. search rules)
    (λ c. search rules)
    returns_4
    (λ c. search rules)
    (λ c. search rules)
    (λ c. search rules)
    returns_5
    (λ c. search rules)
    (λ c. search rules)
    (λ c. search rules)
    returns_6
    (λ c. search rules)
    (λ c. search rules)
    (λ c. search rules)
    returns_7)
