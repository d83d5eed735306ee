-- Too many writes decide at once; else their rows have to fit, and zeros to follow up to the desk's end.
use Prim.Native.Nat.{◌+◌}
use native.Mathlib.Omega.{arith}
use borrow.Author.Rules.{rules}
use Rattle.desk.specs.Layout.{write_count_place}
use Rattle.desk_shape.proofs.Laws.{taken_many, taken_parts}
use Rattle.desk_shape.proofs.taken_fits.Statement.{statement}
use Rattle.desk_shape.proofs.taken_fits.Tie as tie

returns_2 : tie.Need-returns-then-rows_fit
returns_2 c =
    let t = rw c.writes_length-used.ensures at c.piece.ensures in
    rw (
      taken_parts _ _ c.if-n-gt-MAX_WRITES.false,
      ← c.rows_fit.ensures,
      c.if-rows_fit.true,
      ← t,
    ) c.all_zero.ensures

pub taken_fits_spec : {M : Type 1} → statement M
taken_fits_spec =
    tie.close
    (tie.spec
    (λ c. search rules)
    (λ c. search rules)
    (λ c. omega (arith, c.shared_slice_known-2-1.given (c.args.at + write_count_place)))
    (λ c. taken_many _ _ c.if-n-gt-MAX_WRITES.true)
    (λ c. search rules)
    (λ c κs. search rules)
    (λ c κs. search rules)
    (λ c. search rules)
    (λ c. search rules)
    (λ c. search rules)
    (λ c κs. search rules)
    (λ c κs. search rules)
    returns_2
    (λ c. rw (taken_parts _ _ c.if-n-gt-MAX_WRITES.false, ← c.rows_fit.ensures, c.if-rows_fit.false)))
