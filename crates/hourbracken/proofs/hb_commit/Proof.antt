-- `store::commit` does the call; its number and its count are not zero.
use borrow.Author.Rules.{rules}
use Rattle.hourbracken.proofs.Laws.Commit.{positive}
use Rattle.hourbracken.proofs.hb_commit.Statement.{statement}
use Rattle.hourbracken.proofs.hb_commit.Tie as tie

returns : tie.Need-returns
returns c =
    let commit = c.commit.ensures in
    record { answer = _; call = (commit, positive _ _ commit); same = c.committed.ensures }

pub hb_commit_spec : {M : Type 1} → statement M
hb_commit_spec =
    tie.close
    (tie.spec
    (λ c κs. search rules)
    (λ c κs. search rules)
    (λ c. search rules)
    (λ c. search rules)
    (λ c. search rules)
    returns)
