-- The last byte tells; a text without bytes ends where it begins.
use borrow.Author.Rules.{rules}
use Rattle.text_typed.proofs.Laws.Typed.{line_empty, line_cut, line_whole}
use Rattle.text_typed.proofs.line_end.Statement.{statement}
use Rattle.text_typed.proofs.line_end.Tie as tie

pub line_end_spec : {M : Type 1} → statement M
line_end_spec =
    tie.close
    (tie.spec
    (λ c. line_empty _ c.if-n-eq0.true)
    (λ c. search rules)
    (λ c. search rules)
    (λ c. search rules)
    (λ c. line_cut _ c.if-s-n-eq-RETURN.true)
    (λ c. line_whole _ c.if-s-n-eq-RETURN.false))
