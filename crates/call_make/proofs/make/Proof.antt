-- With room, `make_hall` and `make_desks` store an empty hall and free desks; without, no byte has changed.
use borrow.Author.Rules.{rules}
use Rattle.memory.proofs.Laws.Tests.{refused, passed}
use Rattle.call_make.proofs.Laws.{hall_room_lem, desk_room, make_refused, make_done}
use Rattle.call_make.proofs.make.Statement.{statement}
use Rattle.call_make.proofs.make.Tie as tie

make_desks_requires : tie.Need-make_desks-requires
make_desks_requires c κs =
    desk_room _ _ _ _ _ (passed c.has_room.ensures (rw c.if-not-has_room.false))

pub make_spec : {M : Type 1} → statement M
make_spec =
    tie.close
    (tie.spec
    (λ c κs. search rules)
    (λ c. search rules)
    (λ c. search rules)
    (λ c. search (rules, make_refused, refused))
    (λ c κs. hall_room_lem _ _ _ _ _ (passed c.has_room.ensures (rw c.if-not-has_room.false)))
    make_desks_requires
    (λ c. search rules)
    (λ c. search rules)
    (λ c. search (rules, make_done, passed)))
