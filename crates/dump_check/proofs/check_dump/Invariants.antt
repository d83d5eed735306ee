-- From what is known here, the fields still to come end as the whole dump does; a field has a byte at least.
use Rattle.std.proofs.Common.{◌≡◌, ◌-◌, ◌≤◌, length, drop}
use Rattle.dump_fields.specs.Machine.{run_fields, machine}
use Rattle.dump_check.proofs.check_dump.Given as goal

abbrev pub invariant-loop-at : goal.invariant-loop-at
invariant-loop-at l =
    (l.at ≤ length l.dump)
    × (machine l.key_rooms l.version_rooms l.dump ≡ run_fields l.p l.s l.last_key l.at (drop l.at l.dump))

abbrev pub decreases-loop-at : goal.decreases-loop-at
decreases-loop-at l = length l.dump - l.at
