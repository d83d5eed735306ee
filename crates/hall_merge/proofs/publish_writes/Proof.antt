-- Known keys' writes, then new keys', then the counter: together they are what publishing does to the entries.
use borrow.Author.Rules.{rules}
use Rattle.hall_merge.proofs.Laws.Whole.{asks_known, asks_new, published_shaped, published}
use Rattle.hall_merge.proofs.publish_writes.Statement.{statement}
use Rattle.hall_merge.proofs.publish_writes.Tie as tie

abbrev start : tie.After-place_known → tie.Start
start c = c.before.before.before.before.before

place_new_requires : tie.Need-place_new-requires
place_new_requires c κs =
    let pre = (start c.before.before.before).requires in asks_new pre.0 pre.1 c.place_known.ensures

put_counter_requires : tie.Need-put_counter-requires
put_counter_requires c κs =
    let pre = (start c.before.before.before.before.before.before.before).requires in
    published_shaped pre.0 pre.1 c.place_known.ensures c.place_new.ensures

returns : tie.Need-returns
returns c =
    let pre = (start c.before.before.before.before.before.before.before.before.before.before).requires in
    published pre.0 pre.1 c.place_known.ensures c.place_new.ensures
    c.put_counter.ensures

pub publish_writes_spec : {M : Type 1} → statement M
publish_writes_spec =
    tie.close
    (tie.spec
    (λ c κs. let pre = c.requires in asks_known pre.0 pre.1)
    place_new_requires
    put_counter_requires
    (λ c. search rules)
    returns)
