-- Two refusals in the model's order, by what the header says: no key room, no version room left.
use borrow.Author.Tests.{lt-ltb, le-ltb}
use Rattle.model.specs.Load.{fault}
use Rattle.hall.proofs.Laws.Sound.{sound_shaped}
use Rattle.hall_sought.proofs.Laws.Room.{keys_told, versions_told}
use Rattle.hall_sought.proofs.room.lack.Statement.{statement}
use Rattle.hall_sought.proofs.room.lack.Tie as tie

key_count_requires : tie.Need-key_count-requires
key_count_requires c κs = sound_shaped _ c.requires.0.hall

sub_if1 : tie.Need-overflow_sub-key_rooms
sub_if1 c =
    rw (c.key_rooms.ensures, c.key_count.ensures)
    (sound_shaped _ c.requires.0.hall).good.keys_fit

returns : tie.Need-returns-then-key_rooms-key_count
unfolding fault
returns c =
    let pre = c.requires in
    rw (keys_told pre.0 c.key_rooms.ensures c.key_count.ensures pre.1
    (lt-ltb _ _ c.if-key_rooms-key_count.true))

version_rooms_requires : tie.Need-version_rooms-requires
version_rooms_requires c κs = sound_shaped _ c.requires.0.hall

version_count_requires : tie.Need-version_count-requires
version_count_requires c κs = sound_shaped _ c.requires.0.hall

sub_if2 : tie.Need-overflow_sub-version_rooms
sub_if2 c =
    rw (c.version_rooms.ensures, c.version_count.ensures)
    (sound_shaped _ c.requires.0.hall).good.versions_fit

write_count_requires : tie.Need-write_count-requires
write_count_requires c κs =
    let ready = c.requires.0 in (ready.desks, ready.below)

returns_2 : tie.Need-returns-then-version_rooms-version_count
unfolding fault
returns_2 c =
    let pre = c.requires in
    let keys = keys_told pre.0 c.key_rooms.ensures c.key_count.ensures
    pre.1 (le-ltb _ _ c.if-key_rooms-key_count.false) in
    rw (
      keys,
      versions_told pre.0 c.version_rooms.ensures
          c.version_count.ensures c.write_count.ensures (lt-ltb _ _ c.if-version_rooms-version_count.true),
    )

returns_3 : tie.Need-returns
unfolding fault
returns_3 c =
    let pre = c.requires in
    let keys = keys_told pre.0 c.key_rooms.ensures c.key_count.ensures
    pre.1 (le-ltb _ _ c.if-key_rooms-key_count.false) in
    rw (
      keys,
      versions_told pre.0 c.version_rooms.ensures
          c.version_count.ensures c.write_count.ensures (le-ltb _ _ c.if-version_rooms-version_count.false),
    )

pub lack_spec : {M : Type 1} → statement M
lack_spec =
    tie.close
    (tie.spec
    (λ c κs. sound_shaped _ c.requires.0.hall)
    key_count_requires
    sub_if1
    returns
    version_rooms_requires
    version_count_requires
    sub_if2
    write_count_requires
    returns_2
    returns_3)
