-- With `left` operations to go from this state and these seats, the model comes to where the whole plan comes.
use Prim.Native.Nat.{◌<◌}
use mathlib.Core.Path.{◌≡◌, refl, ◌∙◌}
use native.Mathlib.Omega.{arith}
use borrow.Author.Rules.{rules}
use lib.ListN.{length, length-set}
use Rattle.workload_plan.specs.Input.{worker_limit}
use Rattle.workload_run.specs.Workload.{played}
use Rattle.workload_run.proofs.Laws.Run.{Going, going_more, going_all, worker_below}
use Rattle.workload_run.proofs.run.operate.Statement.{statement}
use Rattle.workload_run.proofs.run.operate.Tie as tie

abbrev invariant_loop : tie.invariant-loop-left
invariant_loop hall₀ desk₀ p seats₀ state₀ left₀ hall desk seats state left =
    (length seats ≡ worker_limit)
    × ((length hall ≡ length hall₀)
    × ((length desk ≡ length desk₀) × Going p hall₀ desk₀ hall desk seats left state))

abbrev decreases_loop : tie.decreases-loop-left
decreases_loop hall₀ desk₀ p seats₀ state₀ left₀ hall desk seats state left = left

-- the worker drawn has a seat
below : (c : tie.After-choose-c invariant_loop decreases_loop) → c.choose-c.result.worker < worker_limit
below c =
    worker_below _ c.loop-left.state c.requires c.choose-c.ensures

loop_again : tie.Need-loop-left-preserved invariant_loop decreases_loop
loop_again c =
    let inv = c.loop-left.invariant in
    let in-seats = below c.before.before.before.before.before.before.before.before in (
      length-set c.loop-left.seats c.choose-c.result.worker c.turn.result ∙ inv.0,
      (
        c.turn.auto.hall ∙ inv.1.0,
        (
          c.turn.auto.desk ∙ inv.1.1.0,
          going_more c.args.p c.loop-left.left c.loop-left.state
              c.loop-left.seats inv.1.1.1 c.choose-c.result _ _ (omega arith)
              c.choose-c.ensures (omega arith) c.turn.ensures,
        ),
      ),
    )

returns : tie.Need-returns invariant_loop decreases_loop
returns c = (c.loop-left.invariant.0, going_all _ _ _ _ c.loop-left.invariant.1.1.1 c.loop-left-test.false)

pub operate_spec : {M : Type 1} → statement M
unfolding played
operate_spec =
    tie.close
    (tie.spec
    invariant_loop
    decreases_loop
    (λ c. (refl, (refl, (refl, λ h₀ d₀ s k. (s, (k, refl))))))
    (λ c κs. c.requires)
    (λ c. record { fits = omega (arith, below c) })
    below
    (λ c κs. search rules)
    (λ c. record { fits = omega (arith, below c.before.before.before.before.before.before.before.before) })
    (λ c. below c.before.before.before.before.before.before.before.before)
    (λ c. omega arith)
    (λ c. omega arith)
    loop_again
    (λ c. c.loop-left.invariant.1.0)
    (λ c. c.loop-left.invariant.1.1.0)
    returns)
