-- `piece` gives the part, and a part inside the memory has all its n bytes.
use mathlib.Core.Path.{ap, ◌∙◌}
use borrow.Author.Rules.{rules}
use lib.ListN.{length}
use Rattle.memory.proofs.Laws.Parts.{length_part}
use Rattle.cells.proofs.cell.Statement.{statement}
use Rattle.cells.proofs.cell.Tie as tie

returns : tie.Need-returns
returns c = (
  c.piece.ensures,
  ap length c.piece.ensures
      ∙ length_part c.args.m.now c.args.at c.args.n c.requires,
)

pub cell_spec : {M : Type 1} → statement M
cell_spec = tie.close (tie.spec (λ c κs. search rules) returns)
