-- A row that has this end stays; else the store behind its key's cell changes the end and nothing besides.
use mathlib.Core.Path.{sym, ◌∙◌}
use borrow.Author.Rules.{rules}
use Rattle.hall_rows.proofs.Laws.Ends.{end_none, end_holds}
use Rattle.hall_rows.proofs.keys.set_end.Statement.{statement}
use Rattle.hall_rows.proofs.keys.set_end.Tie as tie

returns : tie.Need-returns-then-end_at-end
returns c =
    end_none _ c.requires.shaped _ _ (sym c.end_at.ensures ∙ c.if-end_at-end.true)

returns_2 : tie.Need-returns
returns_2 c =
    let p = c.requires in
    end_holds _ p.shaped _ _ p.below p.low
    (rw c.end_place.ensures at c.write32.ensures)

pub set_end_spec : {M : Type 1} → statement M
set_end_spec =
    tie.close
    (tie.spec
    (λ c κs. search rules)
    (λ c. search rules)
    returns
    (λ c κs. search rules)
    (λ c κs. search rules)
    (λ c. search rules)
    returns_2)
