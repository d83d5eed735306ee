-- Each size has to lie in its range: the first `is_within` that fails decides, else the last does.
use borrow.Author.Rules.{rules}
use Rattle.model.specs.Sound.{sizes_fit}
use Rattle.memory.proofs.Laws.Tests.{refused, passed}
use Rattle.hall_shape.proofs.sizes_fit.Statement.{statement}
use Rattle.hall_shape.proofs.sizes_fit.Tie as tie

returns : tie.Need-returns-then-not-is_within
unfolding sizes_fit
returns c = rw (refused c.is_within.ensures (rw c.if-not-is_within.true))

returns_2 : tie.Need-returns-then-not-is_within-2
unfolding sizes_fit
returns_2 c =
    rw (passed c.is_within.ensures (rw c.if-not-is_within.false))
    (rw (refused c.is_within-2.ensures (rw c.if-not-is_within-2.true)))

returns_3 : tie.Need-returns
unfolding sizes_fit
returns_3 c =
    rw (passed c.is_within.ensures (rw c.if-not-is_within.false))
    (rw (passed c.is_within-2.ensures (rw c.if-not-is_within-2.false)) c.is_within-3.ensures)

pub sizes_fit_spec : {M : Type 1} → statement M
sizes_fit_spec =
    tie.close
    (tie.spec (λ c κs. search rules) returns (λ c κs. search rules) returns_2 (λ c κs. search rules) returns_3)
