-- Behind a write's key cell its payload's stands, inside memory: `piece` gives its bytes.
use mathlib.Core.Path.{◌∙◌}
use Rattle.desk_writes.proofs.Laws.Writes.{row_named, payload_fits_lem, payload_cell_at}
use Rattle.desk_writes.proofs.payload_at.Statement.{statement}
use Rattle.desk_writes.proofs.payload_at.Tie as tie

pub payload_at_spec : {M : Type 1} → statement M
payload_at_spec =
    tie.close
    (tie.spec
    (λ c κs. row_named _ _ _ c.requires)
    (λ c κs. payload_fits_lem _ _ _ c.requires c.payload_place.ensures)
    (λ c. c.piece.ensures ∙ payload_cell_at _ _ _ c.requires
    c.payload_place.ensures))
