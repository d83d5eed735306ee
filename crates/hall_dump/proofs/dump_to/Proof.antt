-- All of the dump but the records of the entries from i on is written; a turn writes the next record.
use mathlib.Core.Path.{◌≡◌}
use Prim.Native.Nat.{◌-◌, ◌≤◌}
use native.Mathlib.Omega.{arith}
use borrow.Author.Rules.{rules}
use lib.ListN.{length, drop, length-append}
use Rattle.model.specs.Dump.{dump_entry, dump_entries, dump_hall}
use Rattle.hall.specs.Layout.{hall_in}
use Rattle.hall.proofs.Laws.Sound.{sound_shaped, keys_counted}
use Rattle.hall_dump.proofs.Laws.Records.{entries_step, entries_end, hall_apart}
use Rattle.dump_write.proofs.Laws.Writes.{Written, written_first, written_all, lent_room, written_more}
use Rattle.hall_dump.proofs.dump_to.Statement.{statement}
use Rattle.hall_dump.proofs.dump_to.Tie as tie

abbrev invariant_loop : tie.invariant-loop-i
invariant_loop m out₀ n at₀ i₀ out at i =
    (i ≤ n)
    × ((n ≡ length (hall_in m).entries)
    × (Written (dump_hall (hall_in m)) (dump_entries (drop i (hall_in m).entries)) out₀ out at₀ at))

abbrev decreases_loop : tie.decreases-loop-i
decreases_loop m out₀ n at₀ i₀ out at i = n - i

abbrev start : tie.At-loop-i invariant_loop decreases_loop → tie.Start invariant_loop decreases_loop
start c = c.before.before.before.before.before.before.before.before

write_head_requires : tie.Need-write_head-at-requires invariant_loop decreases_loop
write_head_requires c κs =
    let pre = c.requires in
    (pre.0, omega (arith, rw (hall_apart, length-append) at pre.1))

loop_holds : tie.Need-loop-i-init invariant_loop decreases_loop
loop_holds c =
    let pre = c.requires in
    let counted = keys_counted _ pre.0 in
    (omega arith, (omega arith, written_first c.write_head-at.ensures (hall_apart _) pre.1))

write_key_record_requires : tie.Need-write_key_record-at-requires invariant_loop decreases_loop
write_key_record_requires c κs =
    let inv = c.loop-i.invariant.1 in
    let pre = (start c.before.before).requires in
    record {
      sound = pre.0;
      below = omega (arith, keys_counted _ pre.0);
      room = lent_room inv.1 (dump_entry _) _ (entries_step _ _ (rw inv.0 at c.loop-i-test.true));
    }

loop_again : tie.Need-loop-i-preserved invariant_loop decreases_loop
loop_again c =
    let inv = c.loop-i.invariant.1 in
    let more = written_more inv.1 _ _ (entries_step _ _ (rw inv.0 at c.loop-i-test.true))
    c.write_key_record-at.ensures in
    (omega arith, (inv.0, more))

returns : tie.Need-returns invariant_loop decreases_loop
returns c =
    let inv = c.loop-i.invariant.1 in
    written_all c.write_head-at.ensures
    (entries_end _ _ (rw inv.0 at c.loop-i-test.false)) inv.1

pub dump_to_spec : {M : Type 1} → statement M
dump_to_spec =
    tie.close
    (tie.spec
    invariant_loop
    decreases_loop
    (λ c κs. search (rules, sound_shaped))
    write_head_requires
    loop_holds
    (λ c. omega arith)
    (λ c. omega arith)
    (λ c. search rules)
    write_key_record_requires
    (λ c. omega (arith, loop_again c))
    (λ c. omega arith)
    (λ c. omega arith)
    loop_again
    (λ c. omega arith)
    returns)
