-- The lowest bit decides: a free desk has to be zeros, and of a taken one `taken_fits` tells.
use borrow.Author.Rules.{rules}
use borrow.Author.Tests.{eq-eqb, ne_eqb}
use Rattle.desk_shape.specs.Tests.{desk_fits}
use Rattle.desk_shape.proofs.desk_fits.Statement.{statement}
use Rattle.desk_shape.proofs.desk_fits.Tie as tie

returns : tie.Need-returns-then-bits-eq0
unfolding desk_fits
returns c = rw (eq-eqb _ _ c.if-bits-eq0.true, ← c.piece.ensures) c.all_zero.ensures

returns_2 : tie.Need-returns
unfolding desk_fits
returns_2 c = rw (ne_eqb _ _ c.if-bits-eq0.false) c.taken_fits.ensures

pub desk_fits_spec : {M : Type 1} → statement M
desk_fits_spec =
    tie.close (tie.spec (λ c κs. search rules) (λ c κs. search rules) returns (λ c κs. search rules) returns_2)
