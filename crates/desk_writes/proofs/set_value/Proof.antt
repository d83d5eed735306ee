-- The payload of write i stands at its place, and the value goes over it.
use borrow.Author.Rules.{rules}
use Rattle.model.specs.State.{content}
use Rattle.desk_writes.proofs.Laws.Writes.{row_named, payload_fits_lem, changed_row, payload_set}
use Rattle.desk_writes.proofs.set_value.Statement.{statement}
use Rattle.desk_writes.proofs.set_value.Tie as tie

write_value_requires : tie.Need-write_value-requires
write_value_requires c κs =
    let pre = c.requires in
    (pre.1, payload_fits_lem _ _ _ (changed_row _ _ _ pre.0) c.payload_place.ensures)

returns : tie.Need-returns
returns c =
    payload_set _ _ _ c.requires.0 (content c.args.val.now) c.requires.1
    c.payload_place.ensures c.write_value.ensures

pub set_value_spec : {M : Type 1} → statement M
set_value_spec =
    tie.close
    (tie.spec
    (λ c κs. row_named _ _ _ (changed_row _ _ _ c.requires.0))
    write_value_requires
    (λ c. search rules)
    returns)
