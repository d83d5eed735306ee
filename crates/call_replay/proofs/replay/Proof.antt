-- `are_sound` refuses unsound memories unchanged; in sound ones `replay_in` does the records.
use borrow.Author.Rules.{rules}
use Rattle.memory.proofs.Laws.Tests.{refused, passed}
use Rattle.bridge.proofs.Laws.Memories.{sound_of}
use Rattle.call_replay.proofs.Laws.{replay_unsound}
use Rattle.call_replay.proofs.replay.Statement.{statement}
use Rattle.call_replay.proofs.replay.Tie as tie

returns : tie.Need-returns-then-not-are_sound
returns c = replay_unsound _ _ _ (refused c.are_sound.ensures (rw c.if-not-are_sound.true))

replay_in_requires : tie.Need-replay_in-requires
replay_in_requires c κs =
    sound_of _ _ (passed c.are_sound.ensures (rw c.if-not-are_sound.false))

pub replay_spec : {M : Type 1} → statement M
replay_spec =
    tie.close
    (tie.spec
    (λ c κs. search rules)
    (λ c. search rules)
    (λ c. search rules)
    returns
    replay_in_requires
    (λ c. search rules)
    (λ c. search rules)
    (λ c. search rules))
