-- What is done so far and the rest of the journal end as the whole does; each turn does a record, or stops at it.
use mathlib.Core.Path.{◌≡◌, refl}
use Prim.Native.Nat.{◌-◌}
use native.Mathlib.Omega.{arith}
use borrow.Author.Rules.{rules}
use lib.ListN.{length}
use Rattle.hall.specs.Layout.{counter_in}
use Rattle.hall.proofs.Laws.Sound.{sound_shaped}
use Rattle.journal_check.specs.Records.{IsWhole}
use Rattle.journal_replay.proofs.Laws.Going.{Going, going_start, going_bad, going_lawful, going_lack, going_full, going_next}
use Rattle.journal_replay.proofs.replay_records.Statement.{statement}
use Rattle.journal_replay.proofs.replay_records.Tie as tie

abbrev invariant_loop : tie.invariant-loop-n
invariant_loop hall₀ desk₀ journal at₀ hall desk at =
    Going journal hall₀ desk₀ hall desk at × (length hall ≡ length hall₀) × (length desk ≡ length desk₀)

abbrev decreases_loop : tie.decreases-loop-n
decreases_loop hall₀ desk₀ journal at₀ hall desk at = length journal - at

loop_holds : tie.Need-loop-n-init invariant_loop decreases_loop
loop_holds c = let pre = c.requires in (going_start pre.0 pre.1, refl, refl)

counter_requires : tie.Need-counter-requires invariant_loop decreases_loop
counter_requires c κs = sound_shaped _ c.loop-n.invariant.0.sound

returns : tie.Need-returns-in-Cut invariant_loop decreases_loop
returns c =
    going_bad c.loop-n.invariant.0 c.counter.ensures 13
    (rw c.in-Cut.is at c.judge.ensures)

returns_2 : tie.Need-returns-in-Spoiled invariant_loop decreases_loop
returns_2 c =
    going_bad c.loop-n.invariant.0 c.counter.ensures 14
    (rw c.in-Spoiled.is at c.judge.ensures)

abbrev at_loop : tie.In-Whole invariant_loop decreases_loop → tie.At-loop-n invariant_loop decreases_loop
at_loop c = c.before.before.before

-- the record of this turn
whole : (c : tie.In-Whole invariant_loop decreases_loop)
    → let journal = (at_loop c).args.journal.now in
    IsWhole (counter_in (at_loop c).loop-n.hall) journal (at_loop c).loop-n.at c.in-Whole.n
whole c =
    rw (c.in-Whole.is, c.counter.ensures) at c.judge.ensures

add_body : tie.Need-overflow_add-body invariant_loop decreases_loop
add_body c = omega (arith, (whole c).inside)

piece_requires : tie.Need-piece-requires invariant_loop decreases_loop
piece_requires c κs = (whole c.before.before).inside

do_record_requires : tie.Need-do_record-lack-requires invariant_loop decreases_loop
do_record_requires c κs =
    let met = c.before.before.before in
    let going = (at_loop met).loop-n.invariant.0 in
    let lawful = going_lawful going (whole met) c.piece.ensures in
    record { hall = going.sound; desk = going.vacant; lawful = lawful }

full_requires : tie.Need-full-requires invariant_loop decreases_loop
full_requires c κs =
    let met = c.before.before.before.before.before.before.before.before.before in
    let done = c.do_record-lack.ensures in
    going_lack (at_loop met).loop-n.invariant.0 (whole met) c.piece.ensures done.0 done.1
    c.if-lack-ne0.true

returns_3 : tie.Need-returns-then-lack-ne0 invariant_loop decreases_loop
returns_3 c =
    let met = c.before.before.before.before.before.before.before.before.before.before in
    let done = c.do_record-lack.ensures in
    rw c.full.ensures
    (going_full (at_loop met).loop-n.invariant.0 (whole met) c.piece.ensures done.0 done.1
    c.if-lack-ne0.true)

add_at : tie.Need-overflow_add-at invariant_loop decreases_loop
add_at c =
    omega (arith, (whole c.before.before.before.before.before.before.before.before.before).inside)

loop_less : tie.Need-loop-n-smaller invariant_loop decreases_loop
loop_less c =
    omega (arith, (whole c.before.before.before.before.before.before.before.before.before).inside)

loop_again : tie.Need-loop-n-preserved invariant_loop decreases_loop
loop_again c =
    let met = c.before.before.before.before.before.before.before.before.before in
    let inv = (at_loop met).loop-n.invariant in
    let done = c.do_record-lack.ensures in
    let next = going_next inv.0 (whole met) c.piece.ensures done.0 done.1 in
    (next c.if-lack-ne0.false, omega (arith, inv.1), omega (arith, inv.2))

pub replay_records_spec : {M : Type 1} → statement M
replay_records_spec =
    tie.close
    (tie.spec
    invariant_loop
    decreases_loop
    loop_holds
    counter_requires
    (λ c κs. c.loop-n.invariant.0.inside)
    (λ c. search rules)
    (λ c. c.loop-n.invariant.1)
    (λ c. c.loop-n.invariant.2)
    returns
    (λ c. search rules)
    (λ c. c.loop-n.invariant.1)
    (λ c. c.loop-n.invariant.2)
    returns_2
    (λ c. search rules)
    add_body
    piece_requires
    do_record_requires
    full_requires
    (λ c. omega (arith, c.loop-n.invariant.1))
    (λ c. omega (arith, c.loop-n.invariant.2))
    returns_3
    add_at
    loop_less
    loop_again)
