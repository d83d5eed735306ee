-- The tests stand in the order of the model's refusals, and a desk that passes all of them takes the write.
use mathlib.Core.Path.{sym, ◌∙◌}
use borrow.Author.Rules.{rules}
use Rattle.memory.proofs.Laws.Tests.{refused, passed}
use Rattle.memory.proofs.Laws.Which.{placed_at, placed_none}
use Rattle.bridge.proofs.Laws.Desks.{found_below}
use Rattle.call_write.proofs.Laws.{bad_key, long_value, not_open, too_many_lem}
use Rattle.call_write.proofs.desk_for.Statement.{statement}
use Rattle.call_write.proofs.desk_for.Tie as tie

pub desk_for_spec : {M : Type 1} → statement M
desk_for_spec =
    tie.close
    (tie.spec
    (λ c κs. search rules)
    (λ c. search (rules, bad_key, refused))
    (λ c. search (rules, long_value, refused, passed))
    (λ c κs. search rules)
    (λ c. search rules)
    (λ c κs. search (rules, found_below))
    (λ c. search (rules, too_many_lem, passed, placed_at))
    (λ c. search rules)
    (λ c. let room = sym c.is_too_many.ensures ∙ c.if-is_too_many.false in search (rules, passed, placed_at))
    (λ c. search (rules, not_open, passed, placed_none)))
