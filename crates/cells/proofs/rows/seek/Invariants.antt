-- The keys before `lo` are below the key and the one at `hi` is above it; where both meet the key would go.
use Rattle.std.proofs.Common.{◌≤◌, ◌-◌}
use Rattle.cells.specs.Rows.{keys_at}
use Rattle.cells.proofs.Laws.Halving.{Between}
use Rattle.cells.proofs.rows.seek.Given as goal

abbrev pub invariant-loop-lo : goal.invariant-loop-lo
invariant-loop-lo l = (l.lo ≤ l.hi) × (l.hi ≤ l.n) × Between l.key (keys_at l.m l.at l.w l.n) l.lo l.hi

abbrev pub decreases-loop-lo : goal.decreases-loop-lo
decreases-loop-lo l = l.hi - l.lo
