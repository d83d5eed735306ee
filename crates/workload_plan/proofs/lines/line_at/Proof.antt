-- `find` tells where the line ends and `parse` what it says; the next one starts behind the mark or at the end.
use borrow.Author.Rules.{rules}
use Rattle.workload_plan.proofs.Laws.Lines.{line_ends, line_last}
use Rattle.workload_plan.proofs.lines.line_at.Statement.{statement}
use Rattle.workload_plan.proofs.lines.line_at.Tie as tie

pub line_at_spec : {M : Type 1} → statement M
line_at_spec =
    tie.close
    (tie.spec
    (λ c. search rules)
    (λ c. search rules)
    (λ c. search rules)
    (λ c κs. search rules)
    (λ c. search rules)
    (λ c. search rules)
    (λ c. search rules)
    (λ c. search rules)
    (λ c κs. search rules)
    (λ c. search rules)
    (λ c. search rules)
    (λ c. search rules)
    (λ c. search (rules, line_ends))
    (λ c. search (rules, line_last)))
