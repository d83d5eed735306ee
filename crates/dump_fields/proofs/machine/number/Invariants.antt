-- The number of the bytes that came, which are the field's last ones.
use Rattle.std.proofs.Common.{◌≡◌, ◌-◌, ◌^◌, ◌<◌, length, drop}
use Rattle.model.specs.Bytes.{num}
use Rattle.dump_fields.proofs.machine.number.Given as goal

abbrev pub invariant-loop-b : goal.invariant-loop-b
invariant-loop-b l =
    (l.n ≡ num (drop (length l.field - length l.yielded) l.field)) × (l.n < 256 ^ length l.yielded)
