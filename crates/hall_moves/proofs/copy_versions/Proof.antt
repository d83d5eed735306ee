-- An empty run and one that begins at w stay where they are; any other moves down j - w rows as one piece.
use borrow.Author.Rules.{rules}
use Rattle.hall_moves.proofs.Laws.{copy_empty, copy_none, copy_stored}
use Rattle.hall_moves.proofs.copy_versions.Statement.{statement}
use Rattle.hall_moves.proofs.copy_versions.Tie as tie

returns : tie.Need-returns-then-j-k
returns c =
    let p = c.requires in
    copy_empty _ p.shaped _ _ _ p.low p.start p.end c.if-j-k.true

returns_2 : tie.Need-returns-then-w-j
returns_2 c =
    let p = c.requires in
    copy_none _ p.shaped _ _ _ p.low p.start p.end c.if-w-j.true

returns_3 : tie.Need-returns
returns_3 c =
    let p = c.requires in
    copy_stored _ p.shaped _ _ _ p.low p.start p.end
    (rw (c.place-at.ensures, c.place-end.ensures, c.versions_length.ensures)
    at c.close_gap.ensures)

pub copy_versions_spec : {M : Type 1} → statement M
copy_versions_spec =
    tie.close
    (tie.spec
    returns
    returns_2
    (λ c κs. search rules)
    (λ c κs. search rules)
    (λ c. search rules)
    (λ c κs. search rules)
    (λ c κs. search rules)
    (λ c. search rules)
    (λ c. search rules)
    (λ c. search rules)
    returns_3)
