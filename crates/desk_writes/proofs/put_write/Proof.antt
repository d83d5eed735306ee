-- After `delete_write` the key stands in row i, and the value goes over that row's payload.
use borrow.Author.Rules.{rules}
use Rattle.model.specs.State.{content}
use Rattle.desk_writes.proofs.Laws.Writes.{changeable_after, put_over}
use Rattle.desk_writes.proofs.put_write.Statement.{statement}
use Rattle.desk_writes.proofs.put_write.Tie as tie

set_value_requires : tie.Need-set_value-requires
set_value_requires c κs =
    let pre = c.requires in
    (changeable_after _ _ _ pre.0 _ c.delete_write-i.ensures, pre.1)

returns : tie.Need-returns
returns c =
    put_over _ _ _ c.requires.0 _ c.delete_write-i.ensures (content c.args.val.now)
    c.set_value.ensures

pub put_write_spec : {M : Type 1} → statement M
put_write_spec =
    tie.close
    (tie.spec (λ c κs. search rules) set_value_requires (λ c. search rules) returns)
