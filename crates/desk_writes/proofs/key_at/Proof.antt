-- A write's row begins with its key's cell, and `key_in` reads the key out of that.
use mathlib.Core.Path.{◌∙◌}
use Rattle.desk_writes.proofs.Laws.Writes.{row_named, key_ready, key_read}
use Rattle.desk_writes.proofs.key_at.Statement.{statement}
use Rattle.desk_writes.proofs.key_at.Tie as tie

pub key_at_spec : {M : Type 1} → statement M
key_at_spec =
    tie.close
    (tie.spec
    (λ c κs. row_named _ _ _ c.requires)
    (λ c κs. key_ready _ _ _ c.requires c.write_place.ensures)
    (λ c. c.key_in.ensures ∙ key_read _ _ _ c.requires c.write_place.ensures))
