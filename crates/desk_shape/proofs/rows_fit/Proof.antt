-- Testing the rows from row i on comes to testing all; one that fails decides, and at i = n none is left.
use mathlib.Core.Path.{◌≡◌}
use Prim.Native.Nat.{◌+◌, ◌-◌, ◌*◌}
use native.Mathlib.Omega.{arith}
use Rattle.memory.specs.Rows.{rows}
use Rattle.memory.proofs.Laws.Tests.{refused, passed}
use Rattle.desk.specs.Layout.{write_width}
use Rattle.desk_shape.specs.Tests.{rows_fit}
use Rattle.desk_shape.proofs.Laws.{rows_next, rows_end, rows_first}
use Rattle.desk_shape.proofs.rows_fit.Statement.{statement}
use Rattle.desk_shape.proofs.rows_fit.Tie as tie

abbrev invariant_loop : tie.invariant-loop-i
invariant_loop m at n i₀ i = rows_fit (rows m (at + write_width * i) write_width (n - i)) ≡ rows_fit (rows m at write_width n)

abbrev decreases_loop : tie.decreases-loop-i
decreases_loop m at n i₀ i = n - i

returns : tie.Need-returns-then-not-row_fits invariant_loop decreases_loop
unfolding rows_fit
returns c =
    let t = rw c.writes_length.ensures at c.row_fits.ensures in
    rw (rows_next _ _ _ _ _ c.loop-i-test.true, refused t (rw c.if-not-row_fits.true))
    at c.loop-i.invariant

loop_again : tie.Need-loop-i-preserved invariant_loop decreases_loop
unfolding rows_fit
loop_again c =
    let t = rw c.writes_length.ensures at c.row_fits.ensures in
    rw (rows_next _ _ _ _ _ c.loop-i-test.true, passed t (rw c.if-not-row_fits.false))
    at c.loop-i.invariant

returns_2 : tie.Need-returns invariant_loop decreases_loop
unfolding rows_fit
returns_2 c = rw (rows_end _ _ _ _ _ c.loop-i-test.false) at c.loop-i.invariant

pub rows_fit_spec : {M : Type 1} → statement M
rows_fit_spec =
    tie.close
    (tie.spec
    invariant_loop
    decreases_loop
    (λ c. rw rows_first)
    (λ c κs. omega arith)
    (λ c. omega arith)
    (λ c κs. omega arith)
    returns
    (λ c. omega arith)
    (λ c. omega arith)
    loop_again
    returns_2)
