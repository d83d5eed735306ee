-- The desk that `desk_of` finds is the start's, and closing it is the model's abort; with none, it is not open.
use borrow.Author.Rules.{rules}
use Rattle.memory.proofs.Laws.Which.{placed_at, placed_none}
use Rattle.bridge.proofs.Laws.Desks.{shaped, found_below}
use Rattle.call_abort.proofs.Laws.{abort_refused, abort_done}
use Rattle.call_abort.proofs.abort_in.Statement.{statement}
use Rattle.call_abort.proofs.abort_in.Tie as tie

close_desk_requires : tie.Need-close_desk-requires
close_desk_requires c κs =
    (search (rules, shaped), found_below _ _ _ c.desk_of.ensures c.in-At.is)

returns_2 : tie.Need-returns-in-Nothing
returns_2 c =
    abort_refused _ _ (search rules) _ (placed_none c.desk_of.ensures c.in-Nothing.is)

pub abort_in_spec : {M : Type 1} → statement M
abort_in_spec =
    tie.close
    (tie.spec
    (λ c κs. search (rules, shaped))
    (λ c. search rules)
    close_desk_requires
    (λ c. search rules)
    (λ c. search rules)
    (λ c. search (rules, abort_done, placed_at))
    (λ c. search rules)
    returns_2)
