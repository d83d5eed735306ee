-- `are_sound` refuses unsound memories; in sound ones `place_in` finds the value.
use mathlib.Core.Path.{refl}
use borrow.Author.Rules.{rules}
use Rattle.answers.specs.declared.Refusal.TheVariants.{Unsound}
use Rattle.memory.proofs.Laws.Tests.{refused, passed}
use Rattle.hall_values.proofs.Laws.{refuses}
use Rattle.bridge.specs.Store.{looks_at_desks}
use Rattle.bridge.proofs.Laws.Memories.{sound_of, outcome_unsound}
use Rattle.call_read.proofs.place.Statement.{statement}
use Rattle.call_read.proofs.place.Tie as tie

pub place_spec : {M : Type 1} → statement M
unfolding looks_at_desks
place_spec =
    tie.close
    (tie.spec
    (λ c κs. search rules)
    (λ c. refuses _ _ Unsound (outcome_unsound _ _ _ refl (refused c.are_sound.ensures (rw c.if-not-are_sound.true))))
    (λ c κs. search (rules, sound_of, passed))
    (λ c. search rules))
