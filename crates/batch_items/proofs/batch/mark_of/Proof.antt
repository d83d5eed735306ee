-- A begin is known by its kind.
use borrow.Author.Rules.{rules}
use borrow.Author.Tests.{ne_eqb}
use Rattle.batch_items.proofs.Laws.Batch.{mark_kind}
use Rattle.batch_items.proofs.batch.mark_of.Statement.{statement}
use Rattle.batch_items.proofs.batch.mark_of.Tie as tie

returns : tie.Need-returns-then-kind_of-eq-BEGIN
returns c x =
    rw (mark_kind, ← c.kind_of.ensures x, c.if-kind_of-eq-BEGIN.true)

returns_2 : tie.Need-returns
returns_2 c x =
    rw (mark_kind, ← c.kind_of.ensures x, ne_eqb _ 16 c.if-kind_of-eq-BEGIN.false)

pub mark_of_spec : {M : Type 1} → statement M
mark_of_spec = tie.close (tie.spec (λ c κs. search rules) returns returns_2)
