-- `end_at` gives the old end, and row i with that and n more is what `set_end` stores.
use borrow.Author.Rules.{rules}
use Rattle.hall_rows.proofs.Laws.Ends.{end_raised}
use Rattle.hall_rows.proofs.keys.raise_end.Statement.{statement}
use Rattle.hall_rows.proofs.keys.raise_end.Tie as tie

returns : tie.Need-returns
returns c = end_raised _ _ _ c.end_at.ensures c.set_end.ensures

pub raise_end_spec : {M : Type 1} → statement M
raise_end_spec =
    tie.close
    (tie.spec
    (λ c κs. search rules)
    (λ c. search rules)
    (λ c κs. search rules)
    (λ c. search rules)
    returns)
