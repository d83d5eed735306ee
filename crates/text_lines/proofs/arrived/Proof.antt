-- With nothing to skip the bytes are added; else all up to the line's end goes, if `find` finds that end.
use borrow.Author.Rules.{rules}
use Rattle.model.specs.Bytes.{part}
use Rattle.text_lines.proofs.Laws.{grows, lets_go, goes_behind}
use Rattle.text_lines.proofs.arrived.Statement.{statement}
use Rattle.text_lines.proofs.arrived.Tie as tie

pub arrived_spec : {M : Type 1} → statement M
unfolding part
arrived_spec =
    tie.close
    (tie.spec
    (λ c. search rules)
    (λ c. search (rules, grows))
    (λ c. search rules)
    (λ c. search rules)
    (λ c. search rules)
    (λ c κs. search rules)
    (λ c. search rules)
    (λ c. lets_go _ _ _ (search rules) (search rules) _ c.find-n.ensures (search rules) c.if-end-from.true)
    (λ c. search rules)
    (λ c. search rules)
    (λ c. goes_behind _ _ _ (search rules) (search rules) _ c.find-n.ensures (search rules) c.if-end-from.false))
