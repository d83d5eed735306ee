-- Of blanks `is_blank` tells, of other bytes its contrary.
use mathlib.Core.Path.{ap}
use mathlib.Core.Bool.{not}
use borrow.Author.Rules.{rules}
use Rattle.text_typed.proofs.is_kind.Statement.{statement}
use Rattle.text_typed.proofs.is_kind.Tie as tie

pub is_kind_spec : {M : Type 1} → statement M
is_kind_spec =
    tie.close
    (tie.spec
    (λ c κs. search rules)
    (λ c. rw c.if-blank.true c.is_blank.ensures)
    (λ c κs. search rules)
    (λ c. rw c.if-blank.false (ap not c.is_blank-2.ensures)))
