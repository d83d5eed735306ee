-- A row is a key's cell and a payload's: the first decides if it fails, else the second does.
use borrow.Author.Rules.{rules}
use Rattle.desk_shape.proofs.Laws.{row_cells}
use Rattle.desk_shape.proofs.row_fits.Statement.{statement}
use Rattle.desk_shape.proofs.row_fits.Tie as tie

pub row_fits_spec : {M : Type 1} → statement M
row_fits_spec =
    tie.close
    (tie.spec
    (λ c κs. search rules)
    (λ c. search rules)
    (λ c κs. search rules)
    (λ c. rw (row_cells, ← c.is_key_cell.ensures, c.if-is_key_cell.true)
    c.is_payload_cell.ensures)
    (λ c. rw (row_cells, ← c.is_key_cell.ensures, c.if-is_key_cell.false)))
