-- The output is cleared, so the clashes that `commit_in` lists have zeros after them.
use borrow.Author.Rules.{rules}
use Rattle.call_commit.proofs.Laws.Commit.{plain}
use Rattle.batch_calls.proofs.Laws.Details.{commit_listed}
use Rattle.batch_calls.proofs.commit_listed.Statement.{statement}
use Rattle.batch_calls.proofs.commit_listed.Tie as tie

returns : tie.Need-returns
returns c =
    commit_listed c.args.clashes.now c.requires.0 c.requires.1 c.clear.ensures
    (plain c.commit_in.ensures)

pub commit_listed_spec : {M : Type 1} → statement M
commit_listed_spec =
    tie.close
    (tie.spec
    (λ c κs. search rules)
    (λ c. search rules)
    (λ c κs. search rules)
    (λ c. search rules)
    (λ c. search rules)
    (λ c. search rules)
    returns)
