-- Number and key go one after the other to the record's place; a record that has no room is not written.
use mathlib.Core.Path.{ap}
use native.Mathlib.Omega.{arith}
use borrow.Author.Rules.{rules}
use lib.ListN.{length}
use Rattle.hall.proofs.Laws.Sound.{sound_shaped}
use Rattle.hall.proofs.Laws.Rows.{row_good}
use Rattle.hall.proofs.Laws.Chains.{row_range}
use Rattle.hall_conflict.proofs.Laws.Records.{clash_written, clash_left_out}
use Rattle.hall_conflict.proofs.write_clash.Statement.{statement}
use Rattle.hall_conflict.proofs.write_clash.Tie as tie

abbrev start : tie.After-write64-arg-1 → tie.Start
start c = c.before.before.before.before.before.before

number_at_requires : tie.Need-number_at-requires
number_at_requires c κs =
    let pre = (start c).requires in
    (sound_shaped _ pre.0, omega (arith, pre.1, row_range _ pre.0 _ pre.1))

write_key_requires : tie.Need-write_key-requires
write_key_requires c κs =
    let pre = (start c.before.before.before.before.before.before).requires in
    let short = (row_good _ (sound_shaped _ pre.0) _ pre.1).short in (
      omega (arith, short, ap length c.key_at.ensures),
      omega (arith, c.key_place-key_at.ensures),
    )

returns : tie.Need-returns-then-i-out
returns c =
    clash_written _ _ _ c.if-i-out.true c.place-at.ensures
    c.key_place-key_at.ensures c.number_at.ensures c.key_at.ensures
    c.write64.ensures c.write_key.ensures

pub write_clash_spec : {M : Type 1} → statement M
write_clash_spec =
    tie.close
    (tie.spec
    (λ c κs. search rules)
    (λ c κs. search rules)
    number_at_requires
    (λ c κs. search rules)
    (λ c κs. let pre = (start c.before.before.before.before.before).requires in (sound_shaped _ pre.0, pre.1))
    write_key_requires
    (λ c. search rules)
    returns
    (λ c. clash_left_out _ _ _ c.if-i-out.false))
