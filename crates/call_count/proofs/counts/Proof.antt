-- `are_sound` refuses unsound memories; in sound ones `counts_in` counts.
use mathlib.Core.Path.{refl}
use borrow.Author.Rules.{rules}
use Rattle.model.specs.Calls.{counts, ask}
use Rattle.memory.proofs.Laws.Tests.{refused, passed}
use Rattle.bridge.specs.Store.{looks_at_desks, asks_desks}
use Rattle.bridge.proofs.Laws.Memories.{unsound, sound_of}
use Rattle.call_count.proofs.counts.Statement.{statement}
use Rattle.call_count.proofs.counts.Tie as tie

pub counts_spec : {M : Type 1} → statement M
unfolding looks_at_desks asks_desks
counts_spec =
    tie.close
    (tie.spec
    (λ c κs. search rules)
    (λ c. (unsound _ _ (ask counts) refl (refused c.are_sound.ensures (rw c.if-not-are_sound.true))).answer)
    (λ c κs. sound_of _ _ (passed c.are_sound.ensures (rw c.if-not-are_sound.false)))
    (λ c. search rules))
