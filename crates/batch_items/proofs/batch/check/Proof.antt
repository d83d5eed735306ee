-- From here the records to come are the rest of the batch; a turn takes one, and marks it.
use mathlib.Core.List.{[]}
use Prim.Native.Nat.{◌-◌, ◌*◌, ◌≤◌}
use native.Mathlib.Omega.{arith}
use borrow.Author.Rules.{rules}
use Rattle.model.specs.Sizes.{max_writes}
use Rattle.model_batch.specs.Items.{max_items, item_kind}
use Rattle.model_batch.specs.Answers.{clash_width}
use Rattle.batch_items.specs.Papers.{paper_item}
use Rattle.batch_items.proofs.Laws.Batch.{kind_small, Halfway, halfway_none, halfway_length, halfway_small, halfway_end, halfway_full}
use Rattle.batch_items.proofs.Laws.Turns.{Turn, few_yet, mark_there, wrong_there, one_more}
use Rattle.batch_items.proofs.batch.check.Statement.{statement}
use Rattle.batch_items.proofs.batch.check.Tie as tie

abbrev invariant_loop : tie.invariant-loop-at
invariant_loop x begins₀ at₀ n₀ width₀ begins at n width = Halfway x begins₀ begins at n width

abbrev decreases_loop : tie.decreases-loop-at
decreases_loop x begins₀ at₀ n₀ width₀ begins at n width = max_items - n

abbrev start : tie.At-loop-at invariant_loop decreases_loop → tie.Start invariant_loop decreases_loop
start c = c.before.before.before

abbrev loop : tie.After-item_at invariant_loop decreases_loop → tie.At-loop-at invariant_loop decreases_loop
loop c = c.before.before.before.before

-- what was read in this turn
turn : (c : tie.After-item_at invariant_loop decreases_loop)
    → let s = (start (loop c)).args in
    let l = (loop c).loop-at in
    Turn s.x.now s.begins.now l.begins l.at l.n l.width c.item_at.result
turn c =
    record {
      halfway = (loop c).loop-at.invariant;
      inside = c.loop-at-test.true;
      room = c.if-n-eq-MAX_ITEMS.false;
      long = (start (loop c)).requires;
      marks = _;
      cut = c.piece.ensures;
      read = c.item_at.ensures;
    }

abbrev item : tie.After-mark_of invariant_loop decreases_loop → tie.In-Item invariant_loop decreases_loop
item c = c.before

returns : tie.Need-returns-then-n-eq-MAX_ITEMS invariant_loop decreases_loop
returns c =
    halfway_full c.loop-at.invariant c.loop-at-test.true c.if-n-eq-MAX_ITEMS.true

piece_requires : tie.Need-piece-requires invariant_loop decreases_loop
piece_requires c κs =
    omega (arith, halfway_length c.loop-at.invariant, c.loop-at.invariant.few)

item_at_requires : tie.Need-item_at-requires invariant_loop decreases_loop
item_at_requires c κs =
    c.loop-at.invariant.inside

returns_2 : tie.Need-returns-in-Wrong invariant_loop decreases_loop
returns_2 c =
    wrong_there (turn c.before) c.in-Wrong.is

write_mark : tie.Need-bounds-begins-n invariant_loop decreases_loop
write_mark c = mark_there (turn (item c).before)

detail_small : (c : tie.After-detail_width invariant_loop decreases_loop) → c.detail_width.result ≤ max_writes * clash_width
detail_small c =
    let i = paper_item [] (item c.before).in-Item.item in
    omega (arith, c.detail_width.ensures [], kind_small (item_kind i))

add_width : tie.Need-overflow_add-width-in-Item invariant_loop decreases_loop
add_width c = omega (arith, detail_small c, halfway_small (loop (item c.before).before).loop-at.invariant)

add_n : tie.Need-overflow_add-n invariant_loop decreases_loop
add_n c = omega (arith, few_yet (turn (item c.before).before))

loop_less : tie.Need-loop-at-smaller invariant_loop decreases_loop
loop_less c = omega (arith, few_yet (turn (item c.before).before))

loop_again : tie.Need-loop-at-preserved invariant_loop decreases_loop
loop_again c =
    let at-found = item c.before in
    let x = (start (loop at-found.before)).args.x.now in
    rw (c.mark_of.ensures x, c.detail_width.ensures x) (one_more (turn at-found.before) at-found.in-Item.is)

pub check_spec : {M : Type 1} → statement M
check_spec =
    tie.close
    (tie.spec
    invariant_loop
    decreases_loop
    (λ c. halfway_none _ _)
    (λ c. halfway_length c.loop-at.invariant)
    returns
    piece_requires
    item_at_requires
    (λ c. search rules)
    (λ c. halfway_length (loop c.before).loop-at.invariant)
    returns_2
    (λ c. search rules)
    (λ c κs. tt)
    write_mark
    (λ c κs. tt)
    (λ c. omega (arith, detail_small c))
    add_width
    add_n
    loop_less
    loop_again
    (λ c. halfway_length c.loop-at.invariant)
    (λ c. halfway_end c.loop-at.invariant (start c.before).requires c.loop-at-test.false))
