-- After `append_deletion` the key stands in the last row, and the value goes over that row's payload.
use borrow.Author.Rules.{rules}
use Rattle.model.specs.State.{content}
use Rattle.desk_writes.proofs.Laws.Writes.{changeable_behind, value_behind}
use Rattle.desk_writes.proofs.append_value.Statement.{statement}
use Rattle.desk_writes.proofs.append_value.Tie as tie

set_value_requires : tie.Need-set_value-requires
set_value_requires c κs =
    let pre = c.requires in
    (changeable_behind _ _ _ pre.0 _ c.append_deletion-i.ensures, pre.1)

returns : tie.Need-returns
returns c =
    value_behind _ _ _ c.requires.0 _ c.append_deletion-i.ensures (content c.args.val.now)
    c.set_value.ensures

pub append_value_spec : {M : Type 1} → statement M
append_value_spec =
    tie.close
    (tie.spec (λ c κs. search rules) set_value_requires (λ c. search rules) returns)
