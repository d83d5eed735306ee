-- The flag says of the bytes so far what is asked of all.
use Rattle.std.proofs.Common.{◌≡◌, ◌&&◌, drop}
use Rattle.model.specs.Sound.{are_printable}
use Rattle.memory.proofs.spans.are_printable.Given as goal

abbrev pub invariant-loop-b : goal.invariant-loop-b
invariant-loop-b l = (l.printable && are_printable (drop l.b-index l.s)) ≡ are_printable l.s
