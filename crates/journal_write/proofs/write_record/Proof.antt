-- All of the record but the writes from i on is written; a turn writes the next.
use mathlib.Core.Path.{◌≡◌}
use Prim.Native.Nat.{◌-◌, ◌≤◌}
use native.Mathlib.Omega.{arith}
use borrow.Author.Rules.{rules}
use lib.ListN.{length, drop, length-append}
use Rattle.model.specs.Journal.{dump_write, dump_writes, dump_commit}
use Rattle.desk.specs.Shape.{desk_in, own_writes}
use Rattle.desk_writes.specs.Writes.{write_at}
use Rattle.dump_write.proofs.Laws.Writes.{Written, written_first, written_all, lent_room, written_more}
use Rattle.journal_write.specs.Records.{record_length, commit_in}
use Rattle.journal_write.proofs.Laws.Records.{record_apart, length_record, writes_step, writes_end}
use Rattle.journal_write.proofs.write_record.Statement.{statement}
use Rattle.journal_write.proofs.write_record.Tie as tie

abbrev invariant_loop : tie.invariant-loop-i
invariant_loop m out₀ d number len n at₀ i₀ out at i =
    (i ≤ n)
    × (n ≡ length (own_writes (desk_in m d)))
    × Written (dump_commit (commit_in m d number)) (dump_writes (drop i (own_writes (desk_in m d)))) out₀ out at₀ at

abbrev decreases_loop : tie.decreases-loop-i
decreases_loop m out₀ d number len n at₀ i₀ out at i = n - i

write_count_requires : tie.Need-write_count-n-requires invariant_loop decreases_loop
write_count_requires c κs = let pre = c.requires in (pre.shaped, pre.below)

sub_write_head : tie.Need-overflow_sub-len invariant_loop decreases_loop
unfolding record_length
sub_write_head c = omega (arith, c.requires.whole)

write_head_requires : tie.Need-write_head-at-requires invariant_loop decreases_loop
unfolding record_length
write_head_requires c κs = let pre = c.requires in omega (arith, pre.whole, pre.room)

loop_holds : tie.Need-loop-i-init invariant_loop decreases_loop
loop_holds c =
    let pre = c.requires in
    let count = c.write_count-n.ensures in (
      omega arith,
      count,
      written_first c.write_head-at.ensures (rw count (record_apart (commit_in _ _ _) pre.whole))
          (rw length_record (omega (arith, pre.whole, pre.room))),
    )

write_write_requires : tie.Need-write_write-at-requires invariant_loop decreases_loop
write_write_requires c κs =
    let inv = c.loop-i.invariant in
    let ws = own_writes (desk_in c.args.m.now c.args.d) in
    let row = rw inv.1 at c.loop-i-test.true in (
      record { shaped = c.requires.shaped; below = c.requires.below; row = row },
      lent_room inv.2 (dump_write (write_at ws c.loop-i.i)) _ (writes_step ws _ row),
    )

add_at : tie.Need-overflow_add-at invariant_loop decreases_loop
add_at c =
    let inv = c.loop-i.invariant in
    let row = rw inv.1 at c.loop-i-test.true in
    omega (arith, rw (writes_step _ _ row, length-append) at inv.2.inside)

loop_again : tie.Need-loop-i-preserved invariant_loop decreases_loop
loop_again c =
    let inv = c.loop-i.invariant in
    let row = rw inv.1 at c.loop-i-test.true in
    (omega arith, inv.1, written_more inv.2 _ _ (writes_step _ _ row) c.write_write-at.ensures)

returns : tie.Need-returns invariant_loop decreases_loop
returns c =
    let inv = c.loop-i.invariant in
    let none = writes_end _ _ (rw inv.1 at c.loop-i-test.false) in
    written_all c.write_head-at.ensures none inv.2

pub write_record_spec : {M : Type 1} → statement M
write_record_spec =
    tie.close
    (tie.spec
    invariant_loop
    decreases_loop
    write_count_requires
    sub_write_head
    write_head_requires
    loop_holds
    (λ c. omega arith)
    (λ c. omega arith)
    (λ c. search rules)
    write_write_requires
    add_at
    (λ c. omega arith)
    (λ c. omega arith)
    loop_again
    (λ c. omega arith)
    returns)
