-- The payload cells of the first j versions pass; one that fails decides, and at j = n none is left.
use mathlib.Core.Path.{◌≡◌}
use mathlib.Core.Bool.{true}
use Prim.Native.Nat.{◌-◌, ◌≤◌}
use native.Mathlib.Omega.{arith}
use Rattle.memory.specs.Tests.{all_below}
use Rattle.memory.proofs.Laws.Tests.{all_none, all_fails, all_more, all_end}
use Rattle.hall_shape.specs.Tests.{payload_test}
use Rattle.hall_shape.proofs.payloads_fit.Statement.{statement}
use Rattle.hall_shape.proofs.payloads_fit.Tie as tie

abbrev invariant_loop : tie.invariant-loop-j
invariant_loop m rooms n j₀ j = (j ≤ n) × (all_below j (payload_test m) ≡ true)

abbrev decreases_loop : tie.decreases-loop-j
decreases_loop m rooms n j₀ j = n - j

tested : (c : tie.After-is_payload_cell invariant_loop decreases_loop)
    → c.is_payload_cell.result
    ≡ payload_test c.args.m.now c.loop-j.j
unfolding payload_test
tested c =
    rw (c.payload_place.ensures, c.read-h.ensures.key_rooms)
    at c.is_payload_cell.ensures

loop_again : tie.Need-loop-j-preserved invariant_loop decreases_loop
loop_again c =
    let loop = c.loop-j in
    (omega arith, all_more (payload_test _) loop.j loop.invariant.1 (tested c.before) (rw c.if-not-is_payload_cell.false))

pub payloads_fit_spec : {M : Type 1} → statement M
payloads_fit_spec =
    tie.close
    (tie.spec
    invariant_loop
    decreases_loop
    (λ c κs. omega arith)
    (λ c. (omega arith, all_none (payload_test _)))
    (λ c κs. omega arith)
    (λ c κs. omega arith)
    (λ c. all_fails (payload_test _) _ _ (omega arith) (tested c.before) (rw c.if-not-is_payload_cell.true))
    (λ c. omega arith)
    (λ c. omega arith)
    loop_again
    (λ c. all_end (payload_test _) c.loop-j.j c.loop-j.invariant.1 (omega arith) (omega arith)))
