-- `find` counts the bytes before the newline; where it counts all that is left, the line's end has not arrived.
use borrow.Author.Rules.{rules}
use Rattle.text_lines.proofs.Laws.{line_missing, line_there}
use Rattle.text_lines.proofs.line_at.Statement.{statement}
use Rattle.text_lines.proofs.line_at.Tie as tie

pub line_at_spec : {M : Type 1} → statement M
line_at_spec =
    tie.close
    (tie.spec
    (λ c. search rules)
    (λ c. search rules)
    (λ c. search rules)
    (λ c κs. search rules)
    (λ c. search rules)
    (λ c. line_missing _ _ _ c.requires c.find-n.ensures c.if-text-from.true)
    (λ c. search rules)
    (λ c. search rules)
    (λ c. search rules)
    (λ c. line_there _ _ _ c.requires c.find-n.ensures c.if-text-from.false))
