-- The sum and the writes from i on make the record's length; at the end none are left.
use mathlib.Core.Path.{◌≡◌, refl}
use Prim.Native.Nat.{◌+◌, ◌-◌, ◌≤◌}
use native.Mathlib.Omega.{arith}
use lib.ListN.{length, drop, length-append}
use Rattle.model.specs.Journal.{dump_writes}
use Rattle.desk.specs.Shape.{desk_in, own_writes}
use Rattle.journal_write.specs.Records.{record_length}
use Rattle.journal_write.proofs.Laws.Records.{writes_step, writes_end, record_most_lem}
use Rattle.journal_write.proofs.record_length.Statement.{statement}
use Rattle.journal_write.proofs.record_length.Tie as tie

abbrev invariant_loop : tie.invariant-loop-i
invariant_loop m d n sum₀ i₀ sum i =
    (i ≤ n)
    × (n ≡ length (own_writes (desk_in m d)))
    × (sum + length (dump_writes (drop i (own_writes (desk_in m d)))) ≡ record_length (own_writes (desk_in m d)))

abbrev decreases_loop : tie.decreases-loop-i
decreases_loop m d n sum₀ i₀ sum i = n - i

loop_holds : tie.Need-loop-i-init invariant_loop decreases_loop
unfolding record_length
loop_holds c = (omega arith, c.write_count-n.ensures, refl)

write_length_requires : tie.Need-write_length-sum-requires invariant_loop decreases_loop
write_length_requires c κs =
    let pre = c.requires in
    record { shaped = pre.0; below = pre.1; row = rw c.loop-i.invariant.1 at c.loop-i-test.true }

add_sum : tie.Need-overflow_add-sum invariant_loop decreases_loop
add_sum c =
    let inv = c.loop-i.invariant in
    let pre = c.requires in
    let step = rw (writes_step _ _ (rw inv.1 at c.loop-i-test.true), length-append) at inv.2 in
    omega (arith, c.write_length-sum.ensures, record_most_lem _ pre.0 _ pre.1)

loop_again : tie.Need-loop-i-preserved invariant_loop decreases_loop
loop_again c =
    let inv = c.loop-i.invariant in
    let step = rw (writes_step _ _ (rw inv.1 at c.loop-i-test.true), length-append) at inv.2 in
    (omega arith, inv.1, omega (arith, c.write_length-sum.ensures))

returns : tie.Need-returns invariant_loop decreases_loop
returns c =
    let inv = c.loop-i.invariant in
    omega (arith, rw (writes_end _ _ (rw inv.1 at c.loop-i-test.false)) at inv.2)

pub record_length_spec : {M : Type 1} → statement M
record_length_spec =
    tie.close
    (tie.spec
    invariant_loop
    decreases_loop
    (λ c κs. c.requires)
    loop_holds
    write_length_requires
    add_sum
    (λ c. omega arith)
    (λ c. omega arith)
    loop_again
    returns)
