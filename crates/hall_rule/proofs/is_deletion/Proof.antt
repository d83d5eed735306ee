-- The first byte of a payload cell is its tag, and 0 is a deletion.
use borrow.Author.Rules.{rules}
use Rattle.hall_rule.proofs.Laws.Rule.{tag_told}
use Rattle.hall_rule.proofs.is_deletion.Statement.{statement}
use Rattle.hall_rule.proofs.is_deletion.Tie as tie

returns : tie.Need-returns
returns c =
    let p = c.requires in
    tag_told _ p.0 _ p.1 c.payload_place-at.ensures

pub is_deletion_spec : {M : Type 1} → statement M
is_deletion_spec = tie.close (tie.spec (λ c κs. search rules) (λ c. search rules) returns)
