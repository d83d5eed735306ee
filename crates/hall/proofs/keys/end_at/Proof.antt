-- The number behind a row's key cell is the row's end, and `end_place` says where that is.
use mathlib.Core.Path.{◌∙◌}
use borrow.Author.Rules.{rules}
use Rattle.hall.proofs.Laws.Rows.{end_told}
use Rattle.hall.proofs.keys.end_at.Statement.{statement}
use Rattle.hall.proofs.keys.end_at.Tie as tie

returns : tie.Need-returns
returns c =
    let p = c.requires in
    c.read32.ensures ∙ rw c.end_place.ensures (end_told _ p.0 _ p.1)

pub end_at_spec : {M : Type 1} → statement M
end_at_spec = tie.close (tie.spec (λ c κs. search rules) (λ c κs. search rules) (λ c. search rules) returns)
