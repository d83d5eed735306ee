-- A taken desk's bytes begin with its start; a free one's are zeros, and its start is told as 0.
use mathlib.Core.Path.{◌∙◌}
use borrow.Author.Rules.{rules}
use Rattle.desk.proofs.Laws.Desks.{start_in_lem}
use Rattle.desk.proofs.desks.start_at.Statement.{statement}
use Rattle.desk.proofs.desks.start_at.Tie as tie

returns : tie.Need-returns
returns c =
    c.read64.ensures
    ∙ rw c.start_place.ensures
    (start_in_lem c.args.m.now c.requires.0 c.args.d c.requires.1)

pub start_at_spec : {M : Type 1} → statement M
start_at_spec = tie.close (tie.spec (λ c κs. search rules) (λ c κs. search rules) returns)
