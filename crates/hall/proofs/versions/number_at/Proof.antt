-- A version row begins with its number: the eight bytes at its place.
use mathlib.Core.Path.{◌∙◌}
use borrow.Author.Rules.{rules}
use Rattle.hall.proofs.Laws.Rows.{number_told}
use Rattle.hall.proofs.versions.number_at.Statement.{statement}
use Rattle.hall.proofs.versions.number_at.Tie as tie

returns : tie.Need-returns
returns c =
    let p = c.requires in
    c.read64.ensures ∙ rw c.place.ensures (number_told _ p.0 _ p.1)

pub number_at_spec : {M : Type 1} → statement M
number_at_spec = tie.close (tie.spec (λ c κs. search rules) (λ c κs. search rules) returns)
