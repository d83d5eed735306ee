-- A magic that is not `MAGIC` byte by byte is not it in the order of bytes.
use Rattle.model.specs.Dump.{magic}
use Rattle.memory.proofs.Laws.Order.{same_bytes}
use Rattle.dump_fields.proofs.machine.judge.Goals as goal

pub returns-in-Magic : goal.returns-in-Magic
unfolding magic
returns-in-Magic c = rw (c.in-Magic.is, ← same_bytes, ← c.ne.ensures) c.refuse_if.ensures
