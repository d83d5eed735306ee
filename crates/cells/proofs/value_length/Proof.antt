-- The length is the number behind the tag.
use borrow.Author.Rules.{rules}
use Rattle.cells.specs.Cells.{value_length}
use Rattle.cells.proofs.value_length.Statement.{statement}
use Rattle.cells.proofs.value_length.Tie as tie

returns : tie.Need-returns
unfolding value_length
returns c = search rules

pub value_length_spec : {M : Type 1} → statement M
value_length_spec = tie.close (tie.spec (λ c κs. search rules) returns)
