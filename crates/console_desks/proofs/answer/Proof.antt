-- What the test of both memories lets pass has desk memory in shape.
use borrow.Author.Rules.{rules}
use Rattle.memory.proofs.Laws.Tests.{passed}
use Rattle.desk.proofs.Laws.Sound.{sound_shaped}
use Rattle.bridge.proofs.Laws.Memories.{sound_of}
use Rattle.console_desks.proofs.answer.Statement.{statement}
use Rattle.console_desks.proofs.answer.Tie as tie

pub answer_spec : {M : Type 1} → statement M
answer_spec =
    tie.close
    (tie.spec
    (λ c κs. search rules)
    (λ c κs. search rules)
    (λ c. search rules)
    (λ c. search rules)
    (λ c κs. sound_shaped _ _ (sound_of _ _ (passed c.are_sound.ensures (rw c.if-not-are_sound.false))).desk)
    (λ c. search rules)
    (λ c. search rules))
