-- An open desk refuses it; beside free desks the records are done in turn.
use borrow.Author.Rules.{rules}
use Rattle.desk.proofs.Laws.Sound.{sound_shaped}
use Rattle.call_replay.proofs.Laws.{replay_beside_lem, vacant, replay_does}
use Rattle.call_replay.proofs.replay_in.Statement.{statement}
use Rattle.call_replay.proofs.replay_in.Tie as tie

returns : tie.Need-returns-then-open_desks-ne0
returns c =
    replay_beside_lem c.requires c.open_desks.ensures _
    c.if-open_desks-ne0.true

replay_records_requires : tie.Need-replay_records-requires
replay_records_requires c κs =
    let pre = c.requires in
    (pre.hall, vacant pre c.open_desks.ensures c.if-open_desks-ne0.false)

returns_2 : tie.Need-returns
returns_2 c =
    let pre = c.requires in
    rw c.told.ensures
    (replay_does pre c.open_desks.ensures c.if-open_desks-ne0.false c.replay_records.ensures)

pub replay_in_spec : {M : Type 1} → statement M
replay_in_spec =
    tie.close
    (tie.spec
    (λ c κs. sound_shaped _ _ c.requires.desk)
    (λ c. search rules)
    returns
    replay_records_requires
    (λ c κs. search rules)
    (λ c. search rules)
    (λ c. search rules)
    returns_2)
