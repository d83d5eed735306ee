-- The sum, the chain from j on and the newest version's record make the length of the key's record.
use mathlib.Core.Path.{◌≡◌, ap}
use Prim.Native.Nat.{◌+◌, ◌-◌, ◌≤◌}
use native.Mathlib.Omega.{arith}
use borrow.Author.Rules.{rules}
use lib.ListN.{length, length-append}
use Rattle.model.specs.Dump.{dump_version, dump_chain, dump_entry}
use Rattle.hall.specs.Layout.{versions_in, hall_in}
use Rattle.hall.specs.Tables.{version_at, between}
use Rattle.hall.proofs.Laws.Sound.{sound_shaped}
use Rattle.hall.proofs.Laws.Rows.{row_good}
use Rattle.hall_dump.specs.Records.{entry_at}
use Rattle.hall_dump.proofs.Laws.Records.{RowFew, row_few, chain_step, chain_end}
use Rattle.hall_dump.proofs.Laws.Records.{entry_apart, entry_most, length_key_fields}
use Rattle.hall_dump.proofs.key_length.Statement.{statement}
use Rattle.hall_dump.proofs.key_length.Tie as tie

abbrev invariant_loop : tie.invariant-loop-j
invariant_loop m i n end j₀ sum₀ j sum =
    (j ≤ end)
    × ((end ≤ length (versions_in m))
    × (sum + (length (dump_chain (between j end (versions_in m))) + length (dump_version (version_at i (versions_in m))))
    ≡ length (dump_entry (entry_at i (hall_in m).entries))))

abbrev decreases_loop : tie.decreases-loop-j
decreases_loop m i n end j₀ sum₀ j sum = end - j

abbrev start : tie.At-loop-j invariant_loop decreases_loop → tie.Start invariant_loop decreases_loop
start c = c.before.before.before.before.before.before

few : (c : tie.Start invariant_loop decreases_loop) → RowFew c.args.m.now c.args.i
few c = row_few _ c.requires.0 _ c.requires.1

add_sum : tie.Need-overflow_add-sum invariant_loop decreases_loop
add_sum c =
    let pre = c.requires in
    omega (arith, ap length c.key_at.ensures, row_good _ (sound_shaped _ pre.0) _ pre.1)

loop_holds : tie.Need-loop-j-init invariant_loop decreases_loop
loop_holds c =
    let pre = c.requires in
    let range = few c.before.before.before.before.before in
    let apart = entry_apart _ pre.0 _ pre.1 c.key_count-n.ensures c.end_at.ensures
    c.end_before.ensures c.key_at.ensures in
    (omega arith, (omega arith, rw (apart, length-append, length-append, length_key_fields)))

loop_again : tie.Need-loop-j-preserved invariant_loop decreases_loop
loop_again c =
    let inv = c.loop-j.invariant.1 in
    let step = rw (chain_step _ _ _ c.loop-j-test.true inv.0, length-append) at inv.1 in
    (omega arith, (omega arith, omega (arith, c.version_length-sum.ensures)))

-- what the turn leaves is within bounds
add_sum_2 : tie.Need-overflow_add-sum-in-loop-j invariant_loop decreases_loop
add_sum_2 c =
    let pre = (start c.before.before).requires in omega (arith, loop_again c, entry_most _ pre.0 _ pre.1)

version_length_requires_2 : tie.Need-version_length-requires invariant_loop decreases_loop
version_length_requires_2 c κs =
    let at-start = start c.before in (sound_shaped _ at-start.requires.0, omega (arith, few at-start))

add_result : tie.Need-overflow_add-result invariant_loop decreases_loop
add_result c =
    let pre = (start c.before.before).requires in omega (arith, entry_most _ pre.0 _ pre.1)

returns : tie.Need-returns invariant_loop decreases_loop
returns c =
    let vs = versions_in (start c.before.before).args.m.now in
    omega (arith, ap length (chain_end vs _ _ c.loop-j-test.false))

pub key_length_spec : {M : Type 1} → statement M
key_length_spec =
    tie.close
    (tie.spec
    invariant_loop
    decreases_loop
    (λ c κs. search (rules, sound_shaped))
    (λ c κs. search (rules, sound_shaped))
    (λ c. omega (arith, few c.before.before.before))
    (λ c κs. search (rules, sound_shaped))
    (λ c. omega (arith, few c.before.before.before.before))
    (λ c κs. search (rules, sound_shaped))
    add_sum
    loop_holds
    (λ c κs. search (rules, sound_shaped))
    add_sum_2
    (λ c. omega (arith, loop_again c, few (start c.before.before)))
    (λ c. omega arith)
    loop_again
    version_length_requires_2
    add_result
    returns)
