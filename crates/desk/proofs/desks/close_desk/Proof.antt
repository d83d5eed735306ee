-- Without bit d the occupied desks are the others, and a free desk's bytes are zeros.
use borrow.Author.Rules.{rules}
use Rattle.desk.proofs.Laws.Desks.{free_stored}
use Rattle.desk.proofs.desks.close_desk.Statement.{statement}
use Rattle.desk.proofs.desks.close_desk.Tie as tie

returns : tie.Need-returns
returns c =
    free_stored c.args.m.now c.requires.0 c.args.d c.requires.1
    c.occupied.ensures c.write64.ensures
    (rw c.desk_place.ensures at c.clear.ensures)

pub close_desk_spec : {M : Type 1} → statement M
close_desk_spec =
    tie.close
    (tie.spec
    (λ c κs. search rules)
    (λ c. search rules)
    (λ c κs. search rules)
    (λ c κs. search rules)
    (λ c κs. search rules)
    (λ c. search rules)
    returns)
