-- The key's cell and the end behind it are the row's bytes, so two stores put in the whole row.
use borrow.Author.Rules.{rules}
use Rattle.hall_rows.proofs.Laws.Runs.{key_stored}
use Rattle.hall_rows.proofs.keys.put.Statement.{statement}
use Rattle.hall_rows.proofs.keys.put.Tie as tie

returns : tie.Need-returns
returns c =
    let pre = c.requires in
    key_stored _ pre.shaped _ (record { key = c.args.key.now; end = c.args.end })
    (record { short = pre.short; low = pre.low }) pre.below
    (rw c.row_place.ensures at c.write_key.ensures)
    (rw c.end_place.ensures at c.write32.ensures)

pub put_spec : {M : Type 1} → statement M
put_spec =
    tie.close
    (tie.spec
    (λ c κs. search rules)
    (λ c κs. search rules)
    (λ c κs. search rules)
    (λ c κs. search rules)
    (λ c. search rules)
    returns)
