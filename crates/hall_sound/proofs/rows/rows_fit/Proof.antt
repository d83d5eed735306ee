-- All rows before i fit: the first that does not gives the answer, and at the end all do.
use mathlib.Core.Path.{◌≡◌}
use mathlib.Core.Bool.{true}
use Prim.Native.Nat.{◌-◌, ◌≤◌}
use native.Mathlib.Omega.{arith}
use borrow.Author.Rules.{rules}
use Rattle.memory.specs.Tests.{all_below}
use Rattle.memory.proofs.Laws.Tests.{all_none, all_fails, all_more, all_end}
use Rattle.hall_sound.specs.Tests.{row_of}
use Rattle.hall_sound.proofs.rows.rows_fit.Statement.{statement}
use Rattle.hall_sound.proofs.rows.rows_fit.Tie as tie

abbrev invariant_loop : tie.invariant-loop-i
invariant_loop m n i₀ i = (i ≤ n) × (all_below i (row_of m) ≡ true)

abbrev decreases_loop : tie.decreases-loop-i
decreases_loop m n i₀ i = n - i

returns : tie.Need-returns-then-not-row_fits invariant_loop decreases_loop
returns c =
    all_fails (row_of _) c.loop-i.i _ (omega arith) c.row_fits.ensures
    (rw c.if-not-row_fits.true)

loop_again : tie.Need-loop-i-preserved invariant_loop decreases_loop
loop_again c =
    let loop = c.loop-i in
    (omega arith, all_more (row_of _) loop.i loop.invariant.1 c.row_fits.ensures (rw c.if-not-row_fits.false))

returns_2 : tie.Need-returns invariant_loop decreases_loop
returns_2 c = all_end (row_of _) c.loop-i.i c.loop-i.invariant.1 (omega arith) (omega arith)

pub rows_fit_spec : {M : Type 1} → statement M
rows_fit_spec =
    tie.close
    (tie.spec
    invariant_loop
    decreases_loop
    (λ c κs. search rules)
    (λ c. (omega arith, all_none (row_of _)))
    (λ c κs. search rules)
    returns
    (λ c. omega arith)
    (λ c. omega arith)
    loop_again
    returns_2)
