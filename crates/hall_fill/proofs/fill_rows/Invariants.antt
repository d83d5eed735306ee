-- Filling on from byte `at` with what is known there comes to the whole filling; a turn takes the next field.
use Rattle.std.proofs.Common.{◌≡◌, ◌-◌, ◌≤◌, [], length, drop}
use Rattle.dump_fields.specs.Drive.{drive}
use Rattle.hall_place.proofs.Laws.{Ranged}
use Rattle.hall_fill.specs.Filling.{filler, filled}
use Rattle.hall_fill.proofs.fill_rows.Given as goal

abbrev pub invariant-loop-at : goal.invariant-loop-at
invariant-loop-at l =
    (l.at ≤ length l.dump)
    × Ranged l.g
    × (filled l.key_rooms l.version_rooms l.desks l.initial.m l.dump
    ≡ drive (filler l.key_rooms l.version_rooms l.desks) (record { phase = l.p; known = l.s; rows = l.g; memory = l.m }) []
    (drop l.at l.dump))

abbrev pub decreases-loop-at : goal.decreases-loop-at
decreases-loop-at l = length l.dump - l.at
