-- `answer_lines` and `go_on` leave each memory as long as it was, and `go_on` keeps what is held within the buffer.
use mathlib.Core.Path.{◌∙◌}
use borrow.Author.Rules.{rules}
use Rattle.console.proofs.turn.Statement.{statement}
use Rattle.console.proofs.turn.Tie as tie

-- the way on, and the answers before it
abbrev gone : tie.After-slice_known-11-1 → tie.After-go_on
gone c = c.before.before.before.before

abbrev answered : tie.After-go_on → tie.After-answer_lines-t
answered c = c.before.before.before.before.before.before.before.before.before.before.before

pub turn_spec : {M : Type 1} → statement M
turn_spec =
    tie.close
    (tie.spec
    (λ c. search rules)
    (λ c. search rules)
    (λ c. search rules)
    (λ c κs. search rules)
    (λ c κs. search rules)
    (λ c. (answered (gone c)).answer_lines-t.auto.hall)
    (λ c. (answered (gone c)).answer_lines-t.auto.desk)
    (λ c. (gone c).go_on.auto.buffer)
    (λ c. (answered (gone c)).answer_lines-t.auto.spare)
    (λ c. (gone c).go_on.auto.out ∙ (answered (gone c)).answer_lines-t.auto.out)
    (λ c. (gone c).go_on.ensures))
