-- `store::commit_to` does the call; its number and its count are not zero.
use borrow.Author.Rules.{rules}
use Rattle.hourbracken.proofs.Laws.Commit.{positive}
use Rattle.hourbracken.proofs.hb_commit_journal.Statement.{statement}
use Rattle.hourbracken.proofs.hb_commit_journal.Tie as tie

returns : tie.Need-returns
returns c =
    let commit = c.commit_to.ensures in
    record { answer = _; call = (commit, positive _ _ commit.commits); same = c.recorded.ensures }

pub hb_commit_journal_spec : {M : Type 1} → statement M
hb_commit_journal_spec =
    tie.close
    (tie.spec
    (λ c κs. search rules)
    (λ c κs. search rules)
    (λ c. search rules)
    (λ c. search rules)
    (λ c. search rules)
    (λ c. search rules)
    returns)
