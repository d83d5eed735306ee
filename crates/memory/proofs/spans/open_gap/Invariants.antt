-- From the back: the bytes from i to the end stand `width` further up, and the one below i is still as it was.
use Rattle.std.proofs.Common.{◌≡◌, ◌≤◌, ◌-◌, ◌+◌}
use Rattle.std.proofs.lemmas.List.Edits.{sets}
use Rattle.model.specs.Bytes.{part}
use Rattle.memory.proofs.spans.open_gap.Given as goal

abbrev pub invariant-loop-i : goal.invariant-loop-i
invariant-loop-i l = (l.at ≤ l.i) × (l.m ≡ sets l.fn.m (l.i + l.width) (part l.fn.m l.i (l.end - l.i)))
