-- A write is a key, then a payload where the key ends.
use Rattle.std.proofs.Common.{◌∙◌}
use Rattle.journal_check.proofs.Laws.Records.{write_none, write_some}
use Rattle.journal_check.proofs.write_end.Goals as goal

pub returns-in_err-payload : goal.returns-in_err-payload
returns-in_err-payload c = rw c.from_residual.ensures (write_none _ _ _ c.in_err-payload.ensures)

pub payload_end-requires : goal.payload_end-requires
payload_end-requires c = (write_some _ _ c.requires _ c.in_ok-payload.ensures).0

pub returns : goal.returns
returns c = c.payload_end.ensures ∙ (write_some _ _ c.requires _ c.in_ok-payload.ensures).1
