-- A deletion's cell is all zeros, so clearing the cell writes it.
use borrow.Author.Rules.{rules}
use Rattle.cells.proofs.Laws.Cells.{deletion_bytes}
use Rattle.cells.proofs.write_deletion.Statement.{statement}
use Rattle.cells.proofs.write_deletion.Tie as tie

returns : tie.Need-returns
returns c = rw deletion_bytes c.before.before.clear.ensures

pub write_deletion_spec : {M : Type 1} → statement M
write_deletion_spec = tie.close (tie.spec (λ c κs. search rules) (λ c. search rules) returns)
