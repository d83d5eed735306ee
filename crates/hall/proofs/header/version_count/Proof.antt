-- The header's count says how many version rows are read, so it is the table's length.
use mathlib.Core.Path.{sym, ◌∙◌}
use borrow.Author.Rules.{rules}
use Rattle.hall.proofs.Laws.Rows.{version_total}
use Rattle.hall.proofs.header.version_count.Statement.{statement}
use Rattle.hall.proofs.header.version_count.Tie as tie

returns : tie.Need-returns
returns c = c.read32.ensures ∙ sym (version_total _)

pub version_count_spec : {M : Type 1} → statement M
version_count_spec = tie.close (tie.spec (λ c κs. search rules) (λ c. search rules) returns)
