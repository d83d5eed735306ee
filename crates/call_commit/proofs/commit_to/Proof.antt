-- `are_sound` refuses unsound memories unchanged; in sound ones `commit_in` settles the writes and keeps the record.
use borrow.Author.Rules.{rules}
use Rattle.memory.proofs.Laws.Tests.{refused, passed}
use Rattle.bridge.proofs.Laws.Memories.{sound_of}
use Rattle.call_commit.proofs.Laws.Commit.{commit_unsound, journaled}
use Rattle.call_commit.proofs.commit_to.Statement.{statement}
use Rattle.call_commit.proofs.commit_to.Tie as tie

returns : tie.Need-returns-then-not-are_sound
returns c = commit_unsound _ _ _ _ _ (refused c.are_sound.ensures (rw c.if-not-are_sound.true))

commit_in_requires : tie.Need-commit_in-requires
commit_in_requires c κs =
    sound_of _ _ (passed c.are_sound.ensures (rw c.if-not-are_sound.false))

returns_2 : tie.Need-returns
returns_2 c = journaled c.commit_in.ensures

pub commit_to_spec : {M : Type 1} → statement M
commit_to_spec =
    tie.close
    (tie.spec
    (λ c κs. search rules)
    (λ c. search rules)
    (λ c. search rules)
    returns
    commit_in_requires
    (λ c. search rules)
    (λ c. search rules)
    (λ c. search rules)
    (λ c. search rules)
    returns_2)
