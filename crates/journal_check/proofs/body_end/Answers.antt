-- Number, count and writes end as the parser's do, and nothing is left behind the last of them.
use Rattle.std.proofs.Common.{arith}
use Rattle.std.proofs.lemmas.Bool.{eq-eqb, ne_eqb}
use Rattle.journal_check.proofs.Laws.Fields.{ended}
use Rattle.journal_check.proofs.Laws.Records.{body_unnumbered, body_uncounted, body_unwritten, body_written}
use Rattle.journal_check.proofs.body_end.Goals as goal

pub returns-in_err-count : goal.returns-in_err-count
returns-in_err-count c =
    rw c.from_residual.ensures (body_unnumbered _ _ c.limits-s.ensures _ c.in_err-count.ensures)

pub field_end-requires-2 : goal.field_end-requires-2
field_end-requires-2 c = (ended c.args.x.now 0 _ _ _ c.in_ok-count.ensures).2

pub returns-in_err-writes : goal.returns-in_err-writes
returns-in_err-writes c =
    rw c.from_residual-in_err-writes.ensures
    (body_uncounted _ _ c.limits-s.ensures _ c.in_ok-count.ensures c.in_err-writes.ensures)

pub read32-requires : goal.read32-requires
read32-requires c = let writes = ended c.args.x.now _ _ _ _ c.in_ok-writes.ensures in omega arith

pub writes_end-requires : goal.writes_end-requires
writes_end-requires c = (ended c.args.x.now _ _ _ _ c.in_ok-writes.ensures).2

pub returns-in_err-end : goal.returns-in_err-end
returns-in_err-end c =
    rw c.from_residual-in_err-end.ensures
    (body_unwritten _ _ c.limits-s.ensures _ c.in_ok-count.ensures c.in_ok-writes.ensures c.read32.ensures
    c.in_err-end.ensures)

pub returns-then-end-x : goal.returns-then-end-x
returns-then-end-x c =
    body_written _ _ c.limits-s.ensures _ c.in_ok-count.ensures c.in_ok-writes.ensures c.read32.ensures
    c.in_ok-end.ensures (eq-eqb _ _ c.if-end-x.true)

pub returns-else-end-x : goal.returns-else-end-x
returns-else-end-x c =
    body_written _ _ c.limits-s.ensures _ c.in_ok-count.ensures c.in_ok-writes.ensures c.read32.ensures
    c.in_ok-end.ensures (ne_eqb _ _ c.if-end-x.false)
