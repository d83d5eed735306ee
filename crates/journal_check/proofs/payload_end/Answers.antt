-- The tag ends a deletion; a value ends where the length behind its tag says.
use Rattle.std.proofs.Common.{arith}
use Rattle.std.proofs.lemmas.Bool.{le-leb, lt-leb}
use Rattle.journal_check.proofs.Laws.Fields.{ended}
use Rattle.journal_check.proofs.Laws.Records.{pay_none, pay_deletion, pay_cut, pay_value}
use Rattle.journal_check.proofs.payload_end.Goals as goal

pub returns-in_err-length : goal.returns-in_err-length
returns-in_err-length c = rw c.from_residual.ensures (pay_none _ _ _ _ c.in_err-length.ensures)

pub bounds-x-at : goal.bounds-x-at
bounds-x-at c = let tag = ended c.args.x.now _ _ _ _ c.in_ok-length.ensures in omega arith

pub returns-then-x-at-eq0 : goal.returns-then-x-at-eq0
returns-then-x-at-eq0 c = pay_deletion _ _ _ _ c.in_ok-length.ensures c.if-x-at-eq0.true

pub field_end-requires-2 : goal.field_end-requires-2
field_end-requires-2 c = (ended c.args.x.now _ _ _ _ c.in_ok-length.ensures).2

pub returns-in_err-value : goal.returns-in_err-value
returns-in_err-value c =
    rw c.from_residual-in_err-value.ensures
    (pay_cut _ _ _ _ c.in_ok-length.ensures c.if-x-at-eq0.false c.in_err-value.ensures)

pub read32-n-requires : goal.read32-n-requires
read32-n-requires c = let length = ended c.args.x.now _ _ _ _ c.in_ok-value.ensures in omega arith

pub overflow_sub-x : goal.overflow_sub-x
overflow_sub-x c = (ended c.args.x.now _ _ _ _ c.in_ok-value.ensures).2

pub returns-then-n-x : goal.returns-then-n-x
returns-then-n-x c =
    pay_value _ _ _ _ c.in_ok-length.ensures c.if-x-at-eq0.false c.in_ok-value.ensures c.read32-n.ensures
    (le-leb _ _ c.if-n-x.true)

pub returns-else-n-x : goal.returns-else-n-x
returns-else-n-x c =
    pay_value _ _ _ _ c.in_ok-length.ensures c.if-x-at-eq0.false c.in_ok-value.ensures c.read32-n.ensures
    (lt-leb _ _ c.if-n-x.false)
