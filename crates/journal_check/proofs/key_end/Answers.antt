-- Length and key end as the parser's fields do.
use Rattle.std.proofs.Common.{◌∙◌, arith}
use Rattle.journal_check.proofs.Laws.Fields.{ended}
use Rattle.journal_check.proofs.Laws.Records.{key_none, key_some}
use Rattle.journal_check.proofs.key_end.Goals as goal

pub returns-in_err-key : goal.returns-in_err-key
returns-in_err-key c = rw c.from_residual.ensures (key_none _ _ _ _ c.in_err-key.ensures)

pub read32-requires : goal.read32-requires
read32-requires c = let length = ended c.args.x.now _ _ _ _ c.in_ok-key.ensures in omega arith

pub field_end-requires-2 : goal.field_end-requires-2
field_end-requires-2 c = (ended c.args.x.now _ _ _ _ c.in_ok-key.ensures).2

pub returns : goal.returns
returns c = c.field_end-2.ensures ∙ rw c.from-n.ensures (key_some _ _ _ _ c.in_ok-key.ensures c.read32.ensures)
