-- The key cells of the first i rows pass; one that fails decides, and at i = n none is left.
use mathlib.Core.Path.{◌≡◌}
use mathlib.Core.Bool.{true}
use Prim.Native.Nat.{◌-◌, ◌≤◌}
use native.Mathlib.Omega.{arith}
use Rattle.memory.specs.Tests.{all_below}
use Rattle.memory.proofs.Laws.Tests.{all_none, all_fails, all_more, all_end}
use Rattle.hall_shape.specs.Tests.{key_test}
use Rattle.hall_shape.proofs.keys_fit.Statement.{statement}
use Rattle.hall_shape.proofs.keys_fit.Tie as tie

abbrev invariant_loop : tie.invariant-loop-i
invariant_loop m n i₀ i = (i ≤ n) × (all_below i (key_test m) ≡ true)

abbrev decreases_loop : tie.decreases-loop-i
decreases_loop m n i₀ i = n - i

tested : (c : tie.After-is_key_cell invariant_loop decreases_loop)
    → c.is_key_cell.result
    ≡ key_test c.args.m.now c.loop-i.i
unfolding key_test
tested c = rw c.row_place.ensures at c.is_key_cell.ensures

loop_again : tie.Need-loop-i-preserved invariant_loop decreases_loop
loop_again c =
    let loop = c.loop-i in
    (omega arith, all_more (key_test _) loop.i loop.invariant.1 (tested c.before) (rw c.if-not-is_key_cell.false))

pub keys_fit_spec : {M : Type 1} → statement M
keys_fit_spec =
    tie.close
    (tie.spec
    invariant_loop
    decreases_loop
    (λ c κs. omega arith)
    (λ c. (omega arith, all_none (key_test _)))
    (λ c κs. omega arith)
    (λ c κs. omega arith)
    (λ c. all_fails (key_test _) _ _ (omega arith) (tested c.before) (rw c.if-not-is_key_cell.true))
    (λ c. omega arith)
    (λ c. omega arith)
    loop_again
    (λ c. all_end (key_test _) c.loop-i.i c.loop-i.invariant.1 (omega arith) (omega arith)))
