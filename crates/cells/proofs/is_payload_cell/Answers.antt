-- By the tag: 0 wants zeros, 1 a length within the limit and zeros behind the value, any other is no payload.
use Rattle.std.proofs.Common.{arith, slice_index, eq-eqb, ne_eqb, le-leb}
use Rattle.std.proofs.lemmas.Bool.{lt-leb}
use Rattle.model.specs.Sizes.{max_value}
use Rattle.cells.specs.Cells.{is_payload_cell}
use Rattle.cells.proofs.is_payload_cell.Goals as goal

pub returns-in-0 : goal.returns-in-0
unfolding is_payload_cell
returns-in-0 c = rw (← c.cell-c.ensures.0, eq-eqb _ 0 c.in-0.is) c.zero_from.ensures

pub returns-then-n-le-MAX_VALUE : goal.returns-then-n-le-MAX_VALUE
unfolding is_payload_cell
returns-then-n-le-MAX_VALUE c =
    rw (
      ← c.cell-c.ensures.0,
      ne_eqb (slice_index c.cell-c.result.now 0) 0 (omega arith),
      eq-eqb (slice_index c.cell-c.result.now 0) 1 (omega arith),
      ← c.value_length-n.ensures,
      le-leb _ max_value c.if-n-le-MAX_VALUE.true,
    )
    c.zero_from-then-n-le-MAX_VALUE.ensures

pub returns-else-n-le-MAX_VALUE : goal.returns-else-n-le-MAX_VALUE
unfolding is_payload_cell
returns-else-n-le-MAX_VALUE c =
    rw (
      ← c.cell-c.ensures.0,
      ne_eqb (slice_index c.cell-c.result.now 0) 0 (omega arith),
      eq-eqb (slice_index c.cell-c.result.now 0) 1 (omega arith),
      ← c.value_length-n.ensures,
      lt-leb _ max_value c.if-n-le-MAX_VALUE.false,
    )

pub returns-in_default : goal.returns-in_default
unfolding is_payload_cell
returns-in_default c = rw (← c.cell-c.ensures.0, ne_eqb (slice_index c.cell-c.result.now 0) 0 (omega arith), ne_eqb (slice_index c.cell-c.result.now 0) 1 (omega arith))
