-- Tables with another counter differ in the counter's eight bytes alone, so one store makes them.
use borrow.Author.Rules.{rules}
use Rattle.hall.proofs.Laws.Puts.{put_counter}
use Rattle.hall_head.proofs.put_counter.Statement.{statement}
use Rattle.hall_head.proofs.put_counter.Tie as tie

returns : tie.Need-returns
returns c = put_counter _ c.requires _ c.write64.ensures

pub put_counter_spec : {M : Type 1} → statement M
put_counter_spec = tie.close (tie.spec (λ c κs. search rules) (λ c. search rules) returns)
