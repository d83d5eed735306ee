-- Without room nothing has changed; with it, the record kept, the writes published and the desk closed are the model's
-- commit.
use mathlib.Core.Path.{sym, ◌∙◌}
use native.Mathlib.Omega.{arith}
use borrow.Author.Rules.{rules}
use Rattle.hall.proofs.Laws.Sound.{sound_shaped, hall_counter}
use Rattle.commit_writes.proofs.Laws.Writes.{desks_shaped, ready, no_room_ended, number_left, publishable, short_ended, committed_ended}
use Rattle.commit_writes.proofs.publish.Statement.{statement}
use Rattle.commit_writes.proofs.publish.Tie as tie

has_room_requires : tie.Need-has_room-requires
has_room_requires c κs =
    let pre = c.requires in (ready pre.0.desk, pre.1.new)

returns : tie.Need-returns-in-Refused
returns c =
    no_room_ended c.requires.0 _ c.has_room.ensures _ _ _ c.in-Refused.is

counter_requires : tie.Need-counter-number-requires
counter_requires c κs =
    sound_shaped _ c.requires.0.desk.sound.hall

add_number : tie.Need-overflow_add-number
add_number c =
    omega (
      arith,
      number_left c.requires.0 _ c.has_room.ensures c.in_default.is,
      c.counter-number.ensures,
      hall_counter c.args.hall.now,
    )

keep_requires : tie.Need-keep-requires
keep_requires c κs =
    desks_shaped c.requires.0.desk

publish_writes_requires : tie.Need-publish_writes-requires
publish_writes_requires c κs =
    let pre = c.requires in (
      publishable pre.0 _ c.has_room.ensures c.in_default.is
          (c.counter-number.ensures ∙ sym (hall_counter _)),
      pre.1,
    )

close_desk_requires : tie.Need-close_desk-requires
close_desk_requires c κs =
    desks_shaped c.requires.0.desk

returns_2 : tie.Need-returns-in-Short
returns_2 c =
    short_ended c.requires.0 _
    c.has_room.ensures c.in_default.is
    (c.counter-number.ensures ∙ sym (hall_counter _)) _ _ c.keep.ensures c.in-Short.is

returns_3 : tie.Need-returns-in-Record
returns_3 c =
    committed_ended c.requires.0 _
    c.has_room.ensures c.in_default.is
    (c.counter-number.ensures ∙ sym (hall_counter _)) _ c.keep.ensures c.in-Record.is
    c.publish_writes.ensures c.close_desk.ensures

pub publish_spec : {M : Type 1} → statement M
publish_spec =
    tie.close
    (tie.spec
    has_room_requires
    (λ c. search rules)
    (λ c. search rules)
    (λ c. search rules)
    returns
    (λ c. search rules)
    counter_requires
    add_number
    keep_requires
    (λ c. search rules)
    (λ c. search rules)
    publish_writes_requires
    close_desk_requires
    (λ c. search rules)
    (λ c. search rules)
    (λ c. search rules)
    returns_2
    (λ c. search rules)
    (λ c. search rules)
    (λ c. search rules)
    returns_3)
