-- All of the key's record but the chain from j on and the newest version is written; the newest comes last.
use Prim.Native.Nat.{◌-◌, ◌≤◌}
use mathlib.Core.Path.{refl}
use mathlib.Core.List.{◌++◌}
use native.Mathlib.Nat.{le_trans}
use native.Mathlib.Omega.{arith}
use borrow.Author.Rules.{rules}
use lib.ListN.{length}
use Rattle.model.specs.Dump.{dump_version, dump_chain, dump_entry}
use Rattle.hall.specs.Layout.{versions_in, hall_in}
use Rattle.hall.specs.Tables.{version_at, between}
use Rattle.hall.proofs.Laws.Sound.{sound_shaped}
use Rattle.hall_dump.specs.Records.{entry_at}
use Rattle.hall_dump.proofs.Laws.Records.{RowFew, row_few, chain_next, chain_last, entry_apart, fields_fit}
use Rattle.dump_write.proofs.Laws.Writes.{Written, written_first, written_all, lent_room, written_more}
use Rattle.hall_dump.proofs.write_key_record.Statement.{statement}
use Rattle.hall_dump.proofs.write_key_record.Tie as tie

abbrev invariant_loop : tie.invariant-loop-j
invariant_loop m out₀ i n end j₀ at₀ out j at =
    (j ≤ end)
    × ((end ≤ length (versions_in m))
    × (Written (dump_entry (entry_at i (hall_in m).entries))
    (dump_chain (between j end (versions_in m)) ++ dump_version (version_at i (versions_in m))) out₀ out at₀ at))

abbrev decreases_loop : tie.decreases-loop-j
decreases_loop m out₀ i n end j₀ at₀ out j at = end - j

abbrev start : tie.At-loop-j invariant_loop decreases_loop → tie.Start invariant_loop decreases_loop
start c = c.before.before.before.before.before.before.before.before.before.before.before

few : (c : tie.Start invariant_loop decreases_loop) → RowFew c.args.m.now c.args.i
few c = row_few _ c.requires.sound _ c.requires.below

write_key_fields_requires : tie.Need-write_key_fields-at-requires invariant_loop decreases_loop
write_key_fields_requires c κs =
    let pre = c.requires in
    le_trans (fields_fit _ pre.sound _ pre.below _ c.key_at.ensures) pre.room

loop_holds : tie.Need-loop-j-init invariant_loop decreases_loop
loop_holds c =
    let pre = c.requires in
    let range = few c.before.before.before.before.before.before.before.before.before.before in
    let split = entry_apart _ pre.sound _ pre.below c.key_count-n.ensures
    c.end_at.ensures c.end_before.ensures c.key_at.ensures in
    (omega arith, (omega arith, written_first c.write_key_fields-at.ensures split pre.room))

write_version_record_requires : tie.Need-write_version_record-at-requires invariant_loop decreases_loop
write_version_record_requires c κs =
    let inv = c.loop-j.invariant.1 in
    record {
      shaped = sound_shaped _ (start c.before.before).requires.sound;
      below = omega arith;
      room = lent_room inv.1 (dump_version _) _ (chain_next _ _ _ _ c.loop-j-test.true inv.0);
    }

loop_again : tie.Need-loop-j-preserved invariant_loop decreases_loop
loop_again c =
    let inv = c.loop-j.invariant.1 in
    let more = written_more inv.1 _ _ (chain_next _ _ _ _ c.loop-j-test.true inv.0)
    c.write_version_record-at.ensures in
    (omega arith, (omega arith, more))

write_version_record_requires_2 : tie.Need-write_version_record-at-requires-2 invariant_loop decreases_loop
write_version_record_requires_2 c κs =
    let at-start = start c.before.before in
    record {
      shaped = sound_shaped _ at-start.requires.sound;
      below = omega (arith, few at-start);
      room = lent_room c.loop-j.invariant.1.1 (dump_version _) _ (chain_last _ _ _ _ c.loop-j-test.false);
    }

returns : tie.Need-returns invariant_loop decreases_loop
returns c =
    written_all c.write_key_fields-at.ensures refl
    (written_more c.loop-j.invariant.1.1 _ _ (chain_last _ _ _ _ c.loop-j-test.false)
    c.write_version_record-at-2.ensures)

add_at_2 : tie.Need-overflow_add-at-2 invariant_loop decreases_loop
add_at_2 c = omega (arith, (returns c).count, (start c.before.before.before.before.before).requires.room)

pub write_key_record_spec : {M : Type 1} → statement M
write_key_record_spec =
    tie.close
    (tie.spec
    invariant_loop
    decreases_loop
    (λ c κs. search (rules, sound_shaped))
    (λ c κs. search (rules, sound_shaped))
    (λ c. omega (arith, few c.before.before.before.before))
    (λ c κs. search (rules, sound_shaped))
    (λ c. omega (arith, few c.before.before.before.before.before))
    (λ c κs. search (rules, sound_shaped))
    (λ c. omega (arith, few c.before.before.before.before.before.before))
    (λ c. omega (arith, few c.before.before.before.before.before.before))
    write_key_fields_requires
    loop_holds
    (λ c. omega arith)
    (λ c. omega arith)
    (λ c. search rules)
    write_version_record_requires
    (λ c. omega (arith, loop_again c))
    (λ c. omega (arith, loop_again c, few (start c.before.before.before.before.before)))
    (λ c. omega arith)
    loop_again
    (λ c. omega arith)
    (λ c. omega arith)
    (λ c. search rules)
    write_version_record_requires_2
    add_at_2
    (λ c. omega arith)
    returns)
