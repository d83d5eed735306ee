-- `are_sound` refuses unsound memories unchanged; in sound ones `abort_in` gives the transaction up.
use borrow.Author.Rules.{rules}
use Rattle.memory.proofs.Laws.Tests.{refused, passed}
use Rattle.bridge.proofs.Laws.Memories.{sound_of}
use Rattle.bridge.proofs.Laws.Desks.{unsound_on}
use Rattle.call_abort.proofs.abort.Statement.{statement}
use Rattle.call_abort.proofs.abort.Tie as tie

pub abort_spec : {M : Type 1} → statement M
abort_spec =
    tie.close
    (tie.spec
    (λ c κs. search rules)
    (λ c. search rules)
    (λ c. unsound_on _ _ (refused c.are_sound.ensures (rw c.if-not-are_sound.true)))
    (λ c κs. search (rules, sound_of, passed))
    (λ c. search rules)
    (λ c. search rules))
