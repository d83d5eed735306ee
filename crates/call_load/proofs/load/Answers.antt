-- No room or a faulty dump changes nothing; an accepted dump is filled into the hall, and all desks are free.
use Rattle.memory.proofs.Laws.Tests.{refused, passed}
use Rattle.call_make.proofs.Laws.{hall_room_lem, desk_room}
use Rattle.call_load.proofs.Laws.{load_refused, load_faulty, load_done}
use Rattle.call_load.proofs.load.Goals as goal

pub returns-then-not-has_room : goal.returns-then-not-has_room
returns-then-not-has_room c = load_refused _ _ _ _ _ _ (refused c.has_room.ensures (rw c.if-not-has_room.true))

pub fill-requires : goal.fill-requires
fill-requires c = hall_room_lem _ _ _ _ _ (passed c.has_room.ensures (rw c.if-not-has_room.false))

pub make_desks-requires : goal.make_desks-requires
make_desks-requires c = desk_room _ _ _ _ _ (passed c.has_room.ensures (rw c.if-not-has_room.false))

pub returns-in-Ok : goal.returns-in-Ok
returns-in-Ok c =
    load_done _ _ _ _ _ _ (passed c.has_room.ensures (rw c.if-not-has_room.false)) c.check_dump.ensures c.in-Ok.is
    c.fill.ensures c.make_desks.ensures

pub returns-in-Err : goal.returns-in-Err
returns-in-Err c =
    load_faulty _ _ _ _ _ _ (passed c.has_room.ensures (rw c.if-not-has_room.false)) c.check_dump.ensures _ _ c.in-Err.is
    c.faulty.ensures
