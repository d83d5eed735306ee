-- The header's count says how many key rows are read, so it is the table's length.
use mathlib.Core.Path.{sym, ◌∙◌}
use borrow.Author.Rules.{rules}
use Rattle.hall.proofs.Laws.Rows.{key_total}
use Rattle.hall.proofs.header.key_count.Statement.{statement}
use Rattle.hall.proofs.header.key_count.Tie as tie

returns : tie.Need-returns
returns c = c.read32.ensures ∙ sym (key_total _)

pub key_count_spec : {M : Type 1} → statement M
key_count_spec = tie.close (tie.spec (λ c κs. search rules) (λ c. search rules) returns)
