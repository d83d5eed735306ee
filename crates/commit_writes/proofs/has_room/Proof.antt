-- Three refusals in the model's order: no number left, then what `lack` says.
use mathlib.Core.Path.{sym, ◌∙◌}
use borrow.Author.Tests.{le-leb, lt-leb}
use Rattle.model.specs.Calls.{check, room_checks}
use Rattle.hall.proofs.Laws.Sound.{sound_shaped}
use Rattle.commit_writes.proofs.Laws.Writes.{spent_told, lack_told, none_lacks}
use Rattle.commit_writes.proofs.has_room.Statement.{statement}
use Rattle.commit_writes.proofs.has_room.Tie as tie

returns : tie.Need-returns-then-counter-ge-LAST_NUMBER
unfolding check room_checks
returns c = rw (spent_told _ c.counter.ensures (le-leb _ _ c.if-counter-ge-LAST_NUMBER.true))

returns_2 : tie.Need-returns-then-lack-eq-NO_KEY_ROOM
returns_2 c =
    let spent = spent_told _ c.counter.ensures (lt-leb _ _ c.if-counter-ge-LAST_NUMBER.false) in
    lack_told _ _ spent 9 (sym c.if-lack-eq-NO_KEY_ROOM.true ∙ c.lack-lack.ensures)

returns_3 : tie.Need-returns-then-lack-eq-NO_VERSION_ROOM
returns_3 c =
    let spent = spent_told _ c.counter.ensures (lt-leb _ _ c.if-counter-ge-LAST_NUMBER.false) in
    lack_told _ _ spent 10 (sym c.if-lack-eq-NO_VERSION_ROOM.true ∙ c.lack-lack.ensures)

returns_4 : tie.Need-returns
returns_4 c =
    let spent = spent_told _ c.counter.ensures (lt-leb _ _ c.if-counter-ge-LAST_NUMBER.false) in
    none_lacks _ _ spent c.lack-lack.ensures c.if-lack-eq-NO_KEY_ROOM.false c.if-lack-eq-NO_VERSION_ROOM.false

pub has_room_spec : {M : Type 1} → statement M
has_room_spec =
    tie.close
    (tie.spec
    (λ c κs. sound_shaped _ c.requires.0.hall)
    returns
    (λ c κs. c.requires)
    returns_2
    returns_3
    returns_4)
