-- The first byte is the key's length: above the limit it is no key, else what follows the key must be zeros.
use Rattle.std.proofs.Common.{le-leb}
use Rattle.std.proofs.lemmas.Bool.{lt-leb}
use Rattle.model.specs.Sizes.{max_key}
use Rattle.cells.specs.Cells.{is_key_cell}
use Rattle.cells.proofs.is_key_cell.Goals as goal

pub returns-then-n-le-MAX_KEY : goal.returns-then-n-le-MAX_KEY
unfolding is_key_cell
returns-then-n-le-MAX_KEY c = rw (← c.cell-c.ensures.0, le-leb _ max_key c.if-n-le-MAX_KEY.true) c.zero_from.ensures

pub returns-else-n-le-MAX_KEY : goal.returns-else-n-le-MAX_KEY
unfolding is_key_cell
returns-else-n-le-MAX_KEY c = rw (← c.cell-c.ensures.0, lt-leb _ max_key c.if-n-le-MAX_KEY.false)
