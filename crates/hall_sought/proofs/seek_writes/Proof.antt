-- The first j places are right and `new` of their keys are new; a turn adds what `seek` answers.
use Prim.Native.Nat.{◌-◌}
use mathlib.Core.Path.{◌≡◌}
use native.Mathlib.Omega.{arith}
use borrow.Author.Rules.{rules}
use Rattle.model.specs.Sizes.{max_key_rooms}
use Rattle.cells.specs.declared.rows.Place.{Place}
use Rattle.cells.proofs.Laws.Rows.{Within}
use Rattle.hall_sought.proofs.Laws.Sought.{Seeking, seeking_first, place_small, seeking_at, seeking_before, seeking_last}
use Rattle.hall_sought.proofs.seek_writes.Statement.{statement}
use Rattle.hall_sought.proofs.seek_writes.Tie as tie

abbrev invariant_loop : tie.invariant-loop-j
invariant_loop hall desk d at₀ n new₀ j₀ at new j = Seeking hall desk d n at₀ at new j

abbrev decreases_loop : tie.decreases-loop-j
decreases_loop hall desk d at₀ n new₀ j₀ at new j = n - j

abbrev loop : tie.After-seek invariant_loop decreases_loop → tie.At-loop-j invariant_loop decreases_loop
loop c = c.before.before.before

-- the place that `seek` answers is of a row, of which there are few
small : (c : tie.After-seek invariant_loop decreases_loop) {q : Place} → c.seek.result ≡ q → Within q max_key_rooms
small c =
    place_small (loop c).loop-j.invariant c.loop-j-test.true c.key_at.ensures
    c.seek.ensures

write_count_requires : tie.Need-write_count-n-requires invariant_loop decreases_loop
write_count_requires c κs =
    let ready = c.requires.0 in (ready.desks, ready.below)

key_at_requires : tie.Need-key_at-requires invariant_loop decreases_loop
key_at_requires c κs =
    let seeking = c.loop-j.invariant in
    record { shaped = seeking.ready.desks; below = seeking.ready.below; row = omega arith }

loop_again : tie.Need-loop-j-preserved-in-At invariant_loop decreases_loop
loop_again c =
    seeking_at (loop c.before).loop-j.invariant c.loop-j-test.true c.key_at.ensures
    c.seek.ensures _ c.in-At.is

loop_again_2 : tie.Need-loop-j-preserved invariant_loop decreases_loop
loop_again_2 c =
    seeking_before (loop c.before).loop-j.invariant c.loop-j-test.true
    c.key_at.ensures c.seek.ensures _ c.in-Before.is

pub seek_writes_spec : {M : Type 1} → statement M
seek_writes_spec =
    tie.close
    (tie.spec
    invariant_loop
    decreases_loop
    write_count_requires
    (λ c. seeking_first _ _ _ _ _ c.requires c.write_count-n.ensures)
    key_at_requires
    (λ c κs. c.loop-j.invariant.ready.hall)
    (λ c. search rules)
    (λ c. omega (arith, small c.before c.in-At.is))
    (λ c. omega (arith, small c.before c.in-At.is))
    (λ c. search rules)
    (λ c. let seeking = (loop c.before).loop-j.invariant in omega arith)
    (λ c. omega arith)
    (λ c. omega arith)
    loop_again
    (λ c. search rules)
    (λ c. omega (arith, small c.before c.in-Before.is))
    (λ c. search rules)
    (λ c. let seeking = (loop c.before).loop-j.invariant in omega arith)
    (λ c. omega (arith, (loop c.before).loop-j.invariant.few))
    (λ c. omega arith)
    (λ c. omega arith)
    loop_again_2
    (λ c. c.loop-j.invariant.long)
    (λ c. seeking_last c.loop-j.invariant c.loop-j-test.false))
