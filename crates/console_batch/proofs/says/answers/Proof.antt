-- Each answer ends within the text, and the details of so few records end at a small number.
use mathlib.Core.Path.{◌≡◌}
use Prim.Native.Nat.{◌+◌, ◌-◌, ◌*◌, ◌≤◌}
use native.Mathlib.Omega.{arith}
use borrow.Author.Rules.{rules}
use lib.ListN.{length}
use Rattle.model.specs.Sizes.{max_writes}
use Rattle.model_batch.specs.Answers.{head_width, clash_width}
use Rattle.batch_items.proofs.Laws.Batch.{kind_small}
use Rattle.console_batch.proofs.says.answers.Statement.{statement}
use Rattle.console_batch.proofs.says.answers.Tie as tie

abbrev invariant_loop : tie.invariant-loop-i
invariant_loop kinds out text₀ end₀ at₀ i₀ text end at i =
    (at ≤ head_width * length kinds + max_writes * clash_width * i)
    × ((i ≤ length kinds) × ((end ≤ length text) × (length text ≡ length text₀)))

abbrev decreases_loop : tie.decreases-loop-i
decreases_loop kinds out text₀ end₀ at₀ i₀ text end at i = length kinds - i

cast_kind : tie.Need-overflow_cast-kind invariant_loop decreases_loop
cast_kind c =
    omega (arith, c.shared_slice_known-in-loop-i-1.given c.loop-i.i)

small : (c : tie.After-detail_width-width invariant_loop decreases_loop) → c.detail_width-width.result ≤ max_writes * clash_width
small c = rw c.detail_width-width.ensures (kind_small _)

add_at : tie.Need-overflow_add-at invariant_loop decreases_loop
add_at c =
    omega (arith, small c.before.before.before.before.before.before)

loop_again : tie.Need-loop-i-preserved invariant_loop decreases_loop
loop_again c =
    (omega (arith, small c.before.before.before.before.before.before), (omega arith, (omega arith, omega arith)))

pub answers_spec : {M : Type 1} → statement M
answers_spec =
    tie.close
    (tie.spec
    invariant_loop
    decreases_loop
    (λ c κs. search rules)
    (λ c κs. omega arith)
    (λ c. (omega arith, (omega arith, (omega arith, omega arith))))
    (λ c. search rules)
    cast_kind
    (λ c κs. search rules)
    (λ c κs. search rules)
    (λ c κs. search rules)
    (λ c κs. search rules)
    add_at
    (λ c. search rules)
    (λ c. omega arith)
    loop_again
    (λ c. search rules)
    (λ c. search rules))
