-- `close_gap` moves what is held down to the front, so from there on it is the same bytes.
use borrow.Author.Rules.{rules}
use Rattle.text_lines.proofs.Laws.{fronted}
use Rattle.text_lines.proofs.to_front.Statement.{statement}
use Rattle.text_lines.proofs.to_front.Tie as tie

pub to_front_spec : {M : Type 1} → statement M
to_front_spec =
    tie.close
    (tie.spec
    (λ c κs. search rules)
    (λ c. search rules)
    (λ c. search rules)
    (λ c. fronted _ _ c.requires c.close_gap.ensures))
