-- What is left to do leads to the same end, turn after turn, and at the end nothing is left.
use Prim.Native.Nat.{ℕ, ◌-◌, ◌*◌, ◌≤◌}
use native.Mathlib.Omega.{arith}
use mathlib.Core.Path.{◌≡◌, refl, ap, ◌∙◌}
use mathlib.Core.List.{[]}
use borrow.Author.Rules.{rules}
use lib.ListN.{length}
use Rattle.model_batch.specs.Answers.{head_width}
use Rattle.bridge.specs.Store.{memories_of}
use Rattle.batch.specs.Batches.{made_on}
use Rattle.batch.specs.Making.{items_in, written}
use Rattle.batch.proofs.Laws.Loop.{Going, few_items, begun, ended}
use Rattle.batch.proofs.Laws.Turns.{Turn, not_wrong, ends_inside, asks, details_room, goes}
use Rattle.memory.proofs.Laws.Numbers.{are_bytes_of}
use Rattle.batch.proofs.make_records.Statement.{statement}
use Rattle.batch.proofs.make_records.Tie as tie

abbrev invariant_loop : tie.invariant-loop-i
invariant_loop hall₀ desk₀ x begins out₀ count at₀ to₀ i₀ hall desk out at to i =
    let made = made_on (memories_of hall₀ desk₀) [] (items_in x) in
    Going (items_in x) x made.memories
    (written out₀ 0 (head_width * length (items_in x)) (items_in x) made.responses) hall desk out at i to
    × (at ≤ length x) × (length hall ≡ length hall₀) × (length desk ≡ length desk₀) × (length out ≡ length out₀)

abbrev decreases_loop : tie.decreases-loop-i
decreases_loop hall₀ desk₀ x begins out₀ count at₀ to₀ i₀ hall desk out at to i = count - i

abbrev start : tie.At-loop-i invariant_loop decreases_loop → tie.Start invariant_loop decreases_loop
start c = c.before.before.before.before.before.before.before

abbrev loop : tie.After-item_at invariant_loop decreases_loop → tie.At-loop-i invariant_loop decreases_loop
loop c = c.before.before

-- what was read in this turn, behind the records that are made
turn : (c : tie.After-item_at invariant_loop decreases_loop)
    → let s = (start (loop c)).args in
    let l = (loop c).loop-i in
    let made = made_on (memories_of s.hall.now s.desk.now) [] (items_in s.x.now) in
    Turn (items_in s.x.now) s.x.now s.begins.now made.memories
    (written s.out.now 0 (head_width * length (items_in s.x.now)) (items_in s.x.now) made.responses)
    l.hall l.desk l.out l.at l.i s.count l.to c.item_at.result
turn c =
    record {
      going = (loop c).loop-i.invariant.0;
      few = (start (loop c)).requires.count;
      more = c.loop-i-test.true;
      marks = (start (loop c)).requires.marks;
      read = c.item_at.ensures;
    }

place_requires : tie.Need-place-to-requires invariant_loop decreases_loop
place_requires c κs =
    let x = c.args.x.now in
    let a = are_bytes_of x (λ i. omega (arith, c.shared_slice_known-1.given i)) in
    omega (arith, c.requires.count, few_items x (items_in x) a c.requires.whole)

loop_holds : tie.Need-loop-i-init invariant_loop decreases_loop
loop_holds c =
    let x = c.args.x.now in
    let a = are_bytes_of x (λ i. omega (arith, c.shared_slice_known-1.given i)) in
    let g = begun _ _ x _ (items_in x) a c.requires.whole c.requires.sound c.requires.room in
    let to : c.place-to.result ≡ head_width * length (items_in x) =
    c.place-to.ensures ∙ ap (λ (n : ℕ). head_width * n) c.requires.count in
    (rw to g, omega arith, refl, refl, refl)

make_record_requires : tie.Need-make_record-requires invariant_loop decreases_loop
make_record_requires c κs =
    asks (turn c.before.before.before.before) c.in-Item.is

abbrev found : tie.After-detail_width-to invariant_loop decreases_loop → tie.In-Item invariant_loop decreases_loop
found c = c.before.before.before.before.before.before.before.before.before.before.before

add_to : tie.Need-overflow_add-to invariant_loop decreases_loop
add_to c =
    let at_item = (found c).before in
    let room = details_room (turn at_item) (found c).in-Item.is in
    omega (arith, c.detail_width-to.ensures (start (loop at_item)).args.x.now, room)

loop_again : tie.Need-loop-i-preserved invariant_loop decreases_loop
loop_again c =
    let at_item = (found c).before in
    let t = turn at_item in
    let e = (found c).in-Item.is in
    let inv = (loop at_item).loop-i.invariant in (
      goes t e c.make_record.ensures (c.detail_width-to.ensures _),
      ends_inside t e,
      search rules,
      search rules,
      search rules,
    )

returns : tie.Need-returns-in-Wrong invariant_loop decreases_loop
returns c = not_wrong (turn c.before) c.in-Wrong.is

returns_2 : tie.Need-returns invariant_loop decreases_loop
returns_2 c =
    let e = ended c.loop-i.invariant.0 (omega (arith, (start c.before).requires.count, c.loop-i-test.false)) in
    record { memories = e.0; output = e.1 }

pub make_records_spec : {M : Type 1} → statement M
make_records_spec =
    tie.close
    (tie.spec
    invariant_loop
    decreases_loop
    place_requires
    loop_holds
    (λ c κs. c.loop-i.invariant.1)
    (λ c. search rules)
    make_record_requires
    (λ c κs. search rules)
    add_to
    (λ c. search rules)
    (λ c. search rules)
    loop_again
    (λ c. search rules)
    (λ c. search rules)
    (λ c. search rules)
    (λ c. search rules)
    returns
    (λ c. search rules)
    (λ c. search rules)
    (λ c. search rules)
    returns_2)
