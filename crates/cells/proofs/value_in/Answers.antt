-- Tag 0 is a deletion; in any other payload cell the length stands behind the tag, and the value behind that.
use Rattle.std.proofs.Common.{eq-eqb, ne_eqb}
use Rattle.cells.specs.Values.{value_in}
use Rattle.cells.proofs.value_in.Goals as goal

pub returns-then-c-eq0 : goal.returns-then-c-eq0
unfolding value_in
returns-then-c-eq0 c = rw (← c.cell-c.ensures.0, eq-eqb _ 0 c.if-c-eq0.true)

pub returns : goal.returns
unfolding value_in
returns c = rw (← c.cell-c.ensures.0, ne_eqb _ 0 c.if-c-eq0.false, ← c.value_length.ensures)
