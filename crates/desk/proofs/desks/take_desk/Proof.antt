-- With bit d and the start stored the desk is taken without writes: a free one's other bytes are zeros already.
use native.Mathlib.Omega.{arith}
use borrow.Author.Rules.{rules}
use Rattle.desk.proofs.Laws.Desks.{free_below, seat_stored}
use Rattle.desk.proofs.desks.take_desk.Statement.{statement}
use Rattle.desk.proofs.desks.take_desk.Tie as tie

start_place_requires : tie.Need-start_place-requires
start_place_requires c κs =
    let p = c.requires in
    omega (arith, free_below _ p.0 _ p.1)

write_start_requires : tie.Need-write64-requires-2
write_start_requires c κs =
    let p = c.requires in
    omega (arith, free_below _ p.0 _ p.1)

returns : tie.Need-returns
returns c =
    seat_stored c.args.m.now c.requires.0 c.args.d c.requires.1 (omega arith)
    c.occupied.ensures c.write64.ensures
    (rw c.start_place.ensures at c.write64-2.ensures)

pub take_desk_spec : {M : Type 1} → statement M
take_desk_spec =
    tie.close
    (tie.spec
    (λ c κs. search rules)
    (λ c. let p = c.requires in omega (arith, free_below _ p.0 _ p.1))
    (λ c κs. search rules)
    start_place_requires
    write_start_requires
    (λ c. search rules)
    returns)
