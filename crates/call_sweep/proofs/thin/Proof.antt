-- `are_sound` refuses unsound memories unchanged; in sound ones `thin_in` sweeps.
use mathlib.Core.Path.{refl}
use borrow.Author.Rules.{rules}
use Rattle.memory.proofs.Laws.Tests.{refused, passed}
use Rattle.bridge.specs.Store.{looks_at_desks}
use Rattle.bridge.proofs.Laws.Memories.{by_hall, unsound, sound_of}
use Rattle.call_sweep.proofs.thin.Statement.{statement}
use Rattle.call_sweep.proofs.thin.Tie as tie

pub thin_spec : {M : Type 1} → statement M
unfolding looks_at_desks
thin_spec =
    tie.close
    (tie.spec
    (λ c κs. search rules)
    (λ c. search rules)
    (λ c. by_hall (unsound _ _ _ refl (refused c.are_sound.ensures (rw c.if-not-are_sound.true))))
    (λ c κs. search (rules, sound_of, passed))
    (λ c. search rules)
    (λ c. search rules))
