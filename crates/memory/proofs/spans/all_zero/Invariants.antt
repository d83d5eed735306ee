-- The flag says of the bytes so far what is asked of all.
use Rattle.std.proofs.Common.{◌≡◌, ◌&&◌, drop}
use Rattle.memory.specs.Spans.{all_zero}
use Rattle.memory.proofs.spans.all_zero.Given as goal

abbrev pub invariant-loop-b : goal.invariant-loop-b
invariant-loop-b l = (l.zero && all_zero (drop l.b-index l.s)) ≡ all_zero l.s
