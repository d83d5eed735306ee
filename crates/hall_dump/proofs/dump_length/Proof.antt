-- The sum and the records of the entries from i on make the dump's length; at the end none are left.
use mathlib.Core.Path.{◌≡◌, ap}
use Prim.Native.Nat.{◌+◌, ◌-◌, ◌≤◌}
use native.Mathlib.Omega.{arith}
use borrow.Author.Rules.{rules}
use lib.ListN.{length, drop, length-append}
use Rattle.model.specs.Dump.{dump_entries, dump_hall}
use Rattle.hall.specs.Layout.{hall_in}
use Rattle.hall.proofs.Laws.Sound.{sound_shaped, keys_counted}
use Rattle.hall_dump.proofs.Laws.Records.{entries_step, entries_end, hall_apart, length_head, dump_most_lem}
use Rattle.hall_dump.proofs.dump_length.Statement.{statement}
use Rattle.hall_dump.proofs.dump_length.Tie as tie

abbrev invariant_loop : tie.invariant-loop-i
invariant_loop m n sum₀ i₀ sum i =
    (i ≤ n)
    × ((n ≡ length (hall_in m).entries)
    × (sum + length (dump_entries (drop i (hall_in m).entries)) ≡ length (dump_hall (hall_in m))))

abbrev decreases_loop : tie.decreases-loop-i
decreases_loop m n sum₀ i₀ sum i = n - i

loop_holds : tie.Need-loop-i-init invariant_loop decreases_loop
loop_holds c = (
  omega arith,
  (
    omega (arith, keys_counted _ c.requires),
    rw (hall_apart, length-append, length_head),
  ),
)

key_length_requires : tie.Need-key_length-sum-requires invariant_loop decreases_loop
key_length_requires c κs =
    let pre = c.requires in (pre, omega (arith, keys_counted _ pre))

loop_again : tie.Need-loop-i-preserved invariant_loop decreases_loop
loop_again c =
    let inv = c.loop-i.invariant.1 in
    let step = rw (entries_step _ _ (rw inv.0 at c.loop-i-test.true), length-append) at inv.1 in
    (omega arith, (inv.0, omega (arith, c.key_length-sum.ensures)))

add_sum : tie.Need-overflow_add-sum invariant_loop decreases_loop
add_sum c = omega (arith, loop_again c, dump_most_lem _ c.requires.hall)

returns : tie.Need-returns invariant_loop decreases_loop
returns c =
    let es = (hall_in c.args.m.now).entries in
    omega (arith, ap length (entries_end es c.loop-i.i (omega arith)))

pub dump_length_spec : {M : Type 1} → statement M
dump_length_spec =
    tie.close
    (tie.spec
    invariant_loop
    decreases_loop
    (λ c κs. search (rules, sound_shaped))
    loop_holds
    key_length_requires
    add_sum
    (λ c. omega arith)
    (λ c. omega arith)
    loop_again
    returns)
