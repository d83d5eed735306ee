-- The tests of a mark, in their order.
use mathlib.Core.Path.{sym, ◌∙◌}
use borrow.Author.Rules.{rules}
use Rattle.batch_items.proofs.Laws.Items.{unmarked, reserved, known, unknown}
use Rattle.batch_items.proofs.items.mark_fault.Statement.{statement}
use Rattle.batch_items.proofs.items.mark_fault.Tie as tie

returns_2 : tie.Need-returns-then-is_within
returns_2 c =
    reserved _ c.if-mark-ne-MARKER.false (sym c.is_within.ensures ∙ c.if-is_within.true)

returns_3 : tie.Need-returns-then-is_within-2
returns_3 c =
    known _ c.if-mark-ne-MARKER.false (sym c.is_within.ensures ∙ c.if-is_within.false)
    (sym c.is_within-2.ensures ∙ c.if-is_within-2.true)

returns_4 : tie.Need-returns
returns_4 c =
    unknown _ c.if-mark-ne-MARKER.false (sym c.is_within.ensures ∙ c.if-is_within.false)
    (sym c.is_within-2.ensures ∙ c.if-is_within-2.false)

pub mark_fault_spec : {M : Type 1} → statement M
mark_fault_spec =
    tie.close
    (tie.spec
    (λ c. unmarked _ c.if-mark-ne-MARKER.true)
    (λ c κs. search rules)
    returns_2
    (λ c κs. search rules)
    returns_3
    returns_4)
