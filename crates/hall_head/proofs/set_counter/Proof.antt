-- A sound hall with another counter has the same rows, so `put_counter` on its tables makes it.
use borrow.Author.Rules.{rules}
use Rattle.hall.proofs.Laws.Sound.{sound_shaped, put_hall_counter}
use Rattle.hall_head.proofs.set_counter.Statement.{statement}
use Rattle.hall_head.proofs.set_counter.Tie as tie

returns : tie.Need-returns
returns c =
    put_hall_counter _ c.requires _ c.put_counter.ensures

pub set_counter_spec : {M : Type 1} → statement M
set_counter_spec = tie.close (tie.spec (λ c κs. sound_shaped _ c.requires) (λ c. search rules) returns)
