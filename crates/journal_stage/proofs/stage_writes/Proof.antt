-- The desk has the first i writes of the body, and the rest stands from `at` on; a turn stages one more.
use Prim.Native.Nat.{◌-◌}
use native.Mathlib.Omega.{arith}
use borrow.Author.Rules.{rules}
use Rattle.journal_stage.proofs.Laws.Midway.{Midway, midway_start, midway_length, midway_end, midway_stages, midway_next}
use Rattle.journal_stage.proofs.stage_writes.Statement.{statement}
use Rattle.journal_stage.proofs.stage_writes.Tie as tie

abbrev invariant_loop : tie.invariant-loop-i
invariant_loop x m₀ d n at₀ i₀ m at i = Midway x m₀ d n m at i

abbrev decreases_loop : tie.decreases-loop-i
decreases_loop x m₀ d n at₀ i₀ m at i = n - i

read32_requires : tie.Need-read32-n-requires invariant_loop decreases_loop
read32_requires c κs = c.requires.body.long

loop_holds : tie.Need-loop-i-init invariant_loop decreases_loop
loop_holds c = midway_start _ _ _ _ c.requires c.read32-n.ensures

stage_write_requires : tie.Need-stage_write-at-requires invariant_loop decreases_loop
stage_write_requires c κs =
    let loop = c.loop-i in midway_stages _ _ _ _ _ _ _ loop.invariant c.loop-i-test.true

loop_again : tie.Need-loop-i-preserved invariant_loop decreases_loop
loop_again c =
    let done = c.stage_write-at.ensures in
    midway_next _ _ _ _ _ _ _ c.loop-i.invariant c.loop-i-test.true done.0 done.1

pub stage_writes_spec : {M : Type 1} → statement M
stage_writes_spec =
    tie.close
    (tie.spec
    invariant_loop
    decreases_loop
    read32_requires
    (λ c. search rules)
    loop_holds
    stage_write_requires
    (λ c. omega arith)
    (λ c. omega arith)
    loop_again
    (λ c. midway_length _ _ _ _ _ _ _ c.loop-i.invariant)
    (λ c. midway_end _ _ _ _ _ _ _ c.loop-i.invariant c.loop-i-test.false))
