-- A run of key rows is copied down in one piece; nothing is copied where it stands in its place.
use borrow.Author.Rules.{rules}
use Rattle.hall_moves.proofs.Laws.{keys_there, keys_copied}
use Rattle.hall_moves.proofs.copy_keys.Statement.{statement}
use Rattle.hall_moves.proofs.copy_keys.Tie as tie

returns : tie.Need-returns-then-w-i
returns c =
    let p = c.requires in
    keys_there _ p.shaped _ _ _ p.low p.start p.end c.if-w-i.true

returns_2 : tie.Need-returns
returns_2 c =
    let p = c.requires in
    keys_copied _ p.shaped _ _ _ p.low p.start p.end
    (rw (c.row_place-at.ensures, c.row_place-end.ensures, c.rows_length.ensures) at c.close_gap.ensures)

pub copy_keys_spec : {M : Type 1} → statement M
copy_keys_spec =
    tie.close
    (tie.spec
    returns
    (λ c κs. search rules)
    (λ c κs. search rules)
    (λ c. search rules)
    (λ c κs. search rules)
    (λ c κs. search rules)
    (λ c. search rules)
    returns_2)
