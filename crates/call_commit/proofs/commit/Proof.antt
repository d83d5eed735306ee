-- `are_sound` refuses unsound memories unchanged; in sound ones `commit_in` settles the writes and keeps no record.
use mathlib.Core.List.{[]}
use borrow.Author.Rules.{rules}
use Rattle.memory.proofs.Laws.Tests.{refused, passed}
use Rattle.bridge.proofs.Laws.Memories.{sound_of}
use Rattle.call_commit.proofs.Laws.Commit.{commit_unsound, plain}
use Rattle.call_commit.proofs.commit.Statement.{statement}
use Rattle.call_commit.proofs.commit.Tie as tie

returns : tie.Need-returns-then-not-are_sound
returns c = (commit_unsound _ _ _ [] _ (refused c.are_sound.ensures (rw c.if-not-are_sound.true))).commits

commit_in_requires : tie.Need-commit_in-requires
commit_in_requires c κs =
    sound_of _ _ (passed c.are_sound.ensures (rw c.if-not-are_sound.false))

returns_2 : tie.Need-returns
returns_2 c = plain c.commit_in.ensures

pub commit_spec : {M : Type 1} → statement M
commit_spec =
    tie.close
    (tie.spec
    (λ c κs. search rules)
    (λ c. search rules)
    (λ c. search rules)
    returns
    (λ c. search rules)
    commit_in_requires
    (λ c. search rules)
    (λ c. search rules)
    (λ c. search rules)
    returns_2)
