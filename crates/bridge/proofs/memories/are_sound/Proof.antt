-- The hall's test tells that the hall is sound, which is what the desk's test beside it asks.
use borrow.Author.Rules.{rules}
use Rattle.memory.proofs.Laws.Tests.{refused, passed}
use Rattle.hall.proofs.Laws.Sound.{tested}
use Rattle.bridge.specs.Store.{are_sound}
use Rattle.bridge.proofs.memories.are_sound.Statement.{statement}
use Rattle.bridge.proofs.memories.are_sound.Tie as tie

pub are_sound_spec : {M : Type 1} → statement M
unfolding are_sound
are_sound_spec =
    tie.close
    (tie.spec
    (λ c κs. search rules)
    (λ c. rw (refused c.is_sound.ensures (rw c.if-not-is_sound.true)))
    (λ c κs. search (rules, tested, passed))
    (λ c. rw (c.is_sound-2.ensures, passed c.is_sound.ensures (rw c.if-not-is_sound.false))))
