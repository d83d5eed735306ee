-- `are_sound` refuses unsound memories unchanged; in sound ones `begin_in` opens the transaction.
use mathlib.Core.Path.{refl}
use borrow.Author.Rules.{rules}
use Rattle.memory.proofs.Laws.Tests.{refused, passed}
use Rattle.bridge.specs.Store.{looks_at_desks}
use Rattle.bridge.proofs.Laws.Memories.{unsound, sound_of}
use Rattle.call_begin.proofs.begin.Statement.{statement}
use Rattle.call_begin.proofs.begin.Tie as tie

pub begin_spec : {M : Type 1} → statement M
unfolding looks_at_desks
begin_spec =
    tie.close
    (tie.spec
    (λ c κs. search rules)
    (λ c. search rules)
    (λ c. search rules)
    (λ c. unsound _ _ _ refl (refused c.are_sound.ensures (rw c.if-not-are_sound.true)))
    (λ c κs. search (rules, sound_of, passed))
    (λ c. search rules)
    (λ c. search rules)
    (λ c. search rules))
