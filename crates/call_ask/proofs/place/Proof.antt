-- Unsound memory and then a bad key are refused; else the newest value stands where `newest_value` says.
use borrow.Author.Rules.{rules}
use Rattle.answers.specs.declared.Refusal.TheVariants.{Unsound, BadKey}
use Rattle.memory.proofs.Laws.Tests.{refused, passed}
use Rattle.hall.proofs.Laws.Sound.{tested}
use Rattle.bridge.proofs.Laws.Memories.{unsound_hall}
use Rattle.call_ask.proofs.Laws.{newest_key, newest_read}
use Rattle.hall_values.proofs.Laws.{refuses}
use Rattle.call_ask.proofs.place.Statement.{statement}
use Rattle.call_ask.proofs.place.Tie as tie

pub place_spec : {M : Type 1} → statement M
place_spec =
    tie.close
    (tie.spec
    (λ c κs. search rules)
    (λ c. refuses _ _ Unsound (unsound_hall _ _ _ (refused c.is_sound.ensures (rw c.if-not-is_sound.true))))
    (λ c κs. search rules)
    (λ c. refuses _ _ BadKey (search (rules, newest_key, passed, refused)))
    (λ c κs. search (rules, tested, passed))
    (λ c κs. search rules)
    (λ c. search (rules, newest_read, passed)))
