-- Before the row behind the last is behind the last.
use borrow.Author.Rules.{rules}
use Rattle.desk_writes.proofs.Laws.Writes.{behind}
use Rattle.desk_writes.proofs.append_deletion.Statement.{statement}
use Rattle.desk_writes.proofs.append_deletion.Tie as tie

returns : tie.Need-returns
returns c =
    behind c.args.m.now c.args.d c.args.key.now c.requires
    c.write_count-n.ensures c.insert_deletion.ensures

pub append_deletion_spec : {M : Type 1} → statement M
append_deletion_spec =
    tie.close (tie.spec (λ c κs. search rules) (λ c κs. search rules) (λ c. search rules) returns)
