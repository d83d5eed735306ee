-- Rows side by side are one run of bytes, which `open_gap` moves up; by 0 rows nothing has to move.
use borrow.Author.Rules.{rules}
use Rattle.hall_rows.proofs.Laws.Runs.{keys_shifted, keys_stay}
use Rattle.hall_rows.proofs.keys.shift.Statement.{statement}
use Rattle.hall_rows.proofs.keys.shift.Tie as tie

returns : tie.Need-returns-then-by-eq0
returns c =
    let pre = c.requires in
    keys_stay _ pre.shaped _ _ _ pre.start c.if-by-eq0.true pre.rows

returns_2 : tie.Need-returns
returns_2 c =
    let pre = c.requires in
    keys_shifted _ pre.shaped _ _ _ pre.start pre.rows
    (rw (c.row_place.ensures, c.row_place-2.ensures, c.rows_length.ensures)
    at c.open_gap.ensures)

pub shift_spec : {M : Type 1} → statement M
shift_spec =
    tie.close
    (tie.spec
    returns
    (λ c κs. search rules)
    (λ c κs. search rules)
    (λ c κs. search rules)
    (λ c κs. search rules)
    (λ c. search rules)
    returns_2)
