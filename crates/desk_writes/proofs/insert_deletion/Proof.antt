-- The rows from i on make room for one; key, deletion and a count one higher make that the new write.
use native.Mathlib.Omega.{arith}
use borrow.Author.Rules.{rules}
use lib.ListN.{length-set}
use Rattle.model.specs.State.{deletion}
use Rattle.desk_writes.proofs.Laws.Writes.{write_inserted}
use Rattle.desk_writes.proofs.insert_deletion.Statement.{statement}
use Rattle.desk_writes.proofs.insert_deletion.Tie as tie

returns : tie.Need-returns
returns c =
    let pre = c.requires in
    rw c.write_count_place.ensures
    (write_inserted _ _ pre.is_open _ _ deletion pre.short tt c.write_count-n.ensures
    (omega (arith, c.write_count-n.ensures)) (omega (arith, c.write_count-n.ensures))
    c.write_place-at.ensures c.write_place.ensures c.payload_place.ensures
    c.open_gap.ensures c.write_key.ensures c.write_deletion.ensures)

pub insert_deletion_spec : {M : Type 1} → statement M
insert_deletion_spec =
    tie.close
    (tie.spec
    (λ c κs. search rules)
    (λ c κs. search rules)
    (λ c κs. search rules)
    (λ c κs. search rules)
    (λ c κs. search rules)
    (λ c κs. search rules)
    (λ c κs. search rules)
    (λ c. search rules)
    (λ c. search rules)
    (λ c κs. search rules)
    (λ c. search rules)
    (λ c. simp length-set (search rules))
    returns)
