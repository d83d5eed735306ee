-- Each refusal is the model's check at its place; past them the hall is read as a start of that number reads it.
use borrow.Author.Rules.{rules}
use Rattle.answers.specs.declared.Refusal.TheVariants.{Unsound, BadKey, OutOfReach}
use Rattle.memory.proofs.Laws.Tests.{refused, passed}
use Rattle.hall.proofs.Laws.Sound.{tested, sound_shaped}
use Rattle.bridge.proofs.Laws.Memories.{unsound_hall}
use Rattle.hall_values.proofs.Laws.{refuses}
use Rattle.call_ask.proofs.Laws.{as_of_key, as_of_far, as_of_read}
use Rattle.call_ask.proofs.past.place.Statement.{statement}
use Rattle.call_ask.proofs.past.place.Tie as tie

returns_4 : tie.Need-returns
returns_4 c =
    as_of_read _ _ (search (rules, passed)) _ (passed c.key_fits.ensures (rw c.if-not-key_fits.false))
    c.floor.ensures c.counter.ensures
    (passed c.is_within.ensures (rw c.if-not-is_within.false)) c.seen_in.result
    c.held.ensures c.seen_in.ensures

pub place_spec : {M : Type 1} → statement M
place_spec =
    tie.close
    (tie.spec
    (λ c κs. search rules)
    (λ c. refuses _ _ Unsound (unsound_hall _ _ _ (refused c.is_sound.ensures (rw c.if-not-is_sound.true))))
    (λ c κs. search rules)
    (λ c. refuses _ _ BadKey (search (rules, as_of_key, passed, refused)))
    (λ c κs. search (rules, sound_shaped, tested, passed))
    (λ c κs. search (rules, sound_shaped, tested, passed))
    (λ c κs. search rules)
    (λ c. refuses _ _ OutOfReach (search (rules, as_of_far, passed, refused)))
    (λ c κs. search (rules, tested, passed))
    (λ c κs. search rules)
    returns_4)
