-- The lowest free desk takes the next number; with no desk free or no number left, nothing has changed.
use borrow.Author.Rules.{rules}
use Rattle.memory.proofs.Laws.Which.{placed_at, placed_none}
use Rattle.hall.proofs.Laws.Sound.{sound_shaped}
use Rattle.bridge.proofs.Laws.Desks.{shaped}
use Rattle.call_begin.proofs.Laws.{begin_full, begin_spent, begin_done}
use Rattle.call_begin.proofs.begin_in.Statement.{statement}
use Rattle.call_begin.proofs.begin_in.Tie as tie

returns : tie.Need-returns-then-counter-ge-LAST_NUMBER
returns c =
    begin_spent _ _ (search rules) c.counter-counter.ensures _
    (placed_at c.free_desk.ensures c.in-At.is) c.if-counter-ge-LAST_NUMBER.true

returns_2 : tie.Need-returns-else-counter-ge-LAST_NUMBER
returns_2 c =
    begin_done _ _ (search rules) c.counter-counter.ensures _ (search (rules, placed_at)) c.if-counter-ge-LAST_NUMBER.false
    c.set_counter.ensures c.take_desk.ensures

pub begin_in_spec : {M : Type 1} → statement M
begin_in_spec =
    tie.close
    (tie.spec
    (λ c κs. search (rules, shaped))
    (λ c. search rules)
    (λ c κs. search (rules, sound_shaped))
    (λ c. search rules)
    (λ c. search rules)
    returns
    (λ c. search rules)
    (λ c κs. search rules)
    (λ c. search rules)
    (λ c κs. search (rules, shaped, placed_at))
    (λ c. search rules)
    (λ c. search rules)
    (λ c. search rules)
    (λ c. search rules)
    returns_2
    (λ c. search rules)
    (λ c. search (rules, begin_full, placed_none)))
