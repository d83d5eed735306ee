-- A hall without entries is zeros but for its header's numbers, which go over the zeros.
use borrow.Author.Rules.{rules}
use Rattle.hall.proofs.Laws.Halls.{few_rooms}
use Rattle.hall_head.proofs.Laws.{new_hall_lem}
use Rattle.hall_head.proofs.make_hall.Statement.{statement}
use Rattle.hall_head.proofs.make_hall.Tie as tie

returns : tie.Need-returns
returns c =
    new_hall_lem _ _ _ _ c.requires.1 c.needed_length.ensures
    c.clear.ensures c.write_head.ensures

pub make_hall_spec : {M : Type 1} → statement M
make_hall_spec =
    tie.close
    (tie.spec
    (λ c κs. few_rooms _ _ _ c.requires.0)
    (λ c κs. search rules)
    (λ c κs. search rules)
    (λ c. search rules)
    returns)
