-- The desk that `desk_of` finds is the start's, and `settle` settles its writes; with none, it is not open.
use borrow.Author.Rules.{rules}
use Rattle.desk.proofs.Laws.Sound.{sound_shaped}
use Rattle.call_commit.proofs.Laws.Commit.{desk_found, commit_closed, commit_open}
use Rattle.call_commit.proofs.commit_in.Statement.{statement}
use Rattle.call_commit.proofs.commit_in.Tie as tie

settle_requires : tie.Need-settle-requires
settle_requires c κs =
    desk_found c.requires _ c.desk_of.ensures c.in-At.is

returns : tie.Need-returns-in-At
returns c =
    let pre = c.requires in
    let opened = desk_found pre _ c.desk_of.ensures c.in-At.is in
    commit_open opened c.settle.ensures.0 c.settle.ensures.1

returns_2 : tie.Need-returns-in-Nothing
returns_2 c =
    commit_closed c.requires _
    c.desk_of.ensures _ _ c.in-Nothing.is

pub commit_in_spec : {M : Type 1} → statement M
commit_in_spec =
    tie.close
    (tie.spec
    (λ c κs. sound_shaped _ _ c.requires.desk)
    (λ c. search rules)
    settle_requires
    (λ c. search rules)
    (λ c. search rules)
    (λ c. search rules)
    (λ c. search rules)
    (λ c. search rules)
    returns
    (λ c. search rules)
    returns_2)
