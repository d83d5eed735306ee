-- Behind a write's key cell its payload's stands, and `value_in` says where the value in it is.
use Rattle.desk_writes.proofs.Laws.Writes.{row_named, payload_ready, value_read}
use Rattle.desk_writes.proofs.value_at.Statement.{statement}
use Rattle.desk_writes.proofs.value_at.Tie as tie

pub value_at_spec : {M : Type 1} → statement M
value_at_spec =
    tie.close
    (tie.spec
    (λ c κs. row_named _ _ _ c.requires)
    (λ c κs. payload_ready _ _ _ c.requires c.payload_place.ensures)
    (λ c. value_read _ _ _ c.requires c.payload_place.ensures c.value_in.ensures))
