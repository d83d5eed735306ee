-- `are_sound` refuses unsound memories unchanged; in sound ones `put_in` writes the value.
use borrow.Author.Rules.{rules}
use Rattle.memory.proofs.Laws.Tests.{refused, passed}
use Rattle.bridge.proofs.Laws.Memories.{sound_of}
use Rattle.bridge.proofs.Laws.Desks.{unsound_on}
use Rattle.call_write.proofs.put.Statement.{statement}
use Rattle.call_write.proofs.put.Tie as tie

pub put_spec : {M : Type 1} → statement M
put_spec =
    tie.close
    (tie.spec
    (λ c κs. search rules)
    (λ c. search rules)
    (λ c. unsound_on _ _ (refused c.are_sound.ensures (rw c.if-not-are_sound.true)))
    (λ c κs. search (rules, sound_of, passed))
    (λ c. search rules)
    (λ c. search rules))
