-- The commit is the model's; only where it lacked room an abort follows, as there.
use borrow.Author.Rules.{rules}
use Rattle.workload_turns.proofs.Laws.Turns.{finish_kept, finish_aborted}
use Rattle.workload_turns.proofs.finish.Statement.{statement}
use Rattle.workload_turns.proofs.finish.Tie as tie

returns : tie.Need-returns-then-lacks_room
returns c h₀ d₀ s k =
    finish_aborted c.commit-r.ensures
    c.lacks_room.ensures k c.if-lacks_room.true
    c.abort.ensures

returns_2 : tie.Need-returns-else-lacks_room
returns_2 c h₀ d₀ s k =
    finish_kept c.commit-r.ensures
    c.lacks_room.ensures k c.if-lacks_room.false

pub finish_spec : {M : Type 1} → statement M
finish_spec =
    tie.close
    (tie.spec
    (λ c. search rules)
    (λ c κs. search rules)
    (λ c κs. search rules)
    (λ c κs. search rules)
    (λ c. search rules)
    (λ c. search rules)
    returns
    (λ c. search rules)
    (λ c. search rules)
    returns_2)
