-- Zeros over the rows from n on make unused room of them, and the count says n; if it does already, none go.
use mathlib.Core.Path.{◌∙◌}
use borrow.Author.Rules.{rules}
use Rattle.hall_rows.proofs.Laws.Cuts.{no_keys_cut, keys_cut}
use Rattle.hall_rows.proofs.keys.cut.Statement.{statement}
use Rattle.hall_rows.proofs.keys.cut.Tie as tie

returns : tie.Need-returns-then-n-count
returns c = no_keys_cut _ c.requires.0 _ (c.if-n-count.true ∙ c.key_count-count.ensures)

returns_2 : tie.Need-returns
returns_2 c =
    let p = c.requires in
    keys_cut _ p.0 _ p.1 c.key_count-count.ensures
    (rw (c.row_place.ensures, c.rows_length.ensures) at c.clear.ensures) c.write32.ensures

pub cut_spec : {M : Type 1} → statement M
cut_spec =
    tie.close
    (tie.spec
    (λ c κs. search rules)
    (λ c. search rules)
    returns
    (λ c κs. search rules)
    (λ c. search rules)
    (λ c κs. search rules)
    (λ c κs. search rules)
    (λ c κs. search rules)
    (λ c. search rules)
    returns_2)
