-- The rooms behind the last row hold zeros, which are the bytes of empty rows: only the count has to go up.
use borrow.Author.Rules.{rules}
use Rattle.hall_rows.proofs.Laws.Runs.{keys_grown}
use Rattle.hall_rows.proofs.keys.grow.Statement.{statement}
use Rattle.hall_rows.proofs.keys.grow.Tie as tie

returns : tie.Need-returns
returns c =
    keys_grown _ c.requires.0 _ c.requires.1 c.key_count-count.ensures
    c.write32.ensures

pub grow_spec : {M : Type 1} → statement M
grow_spec =
    tie.close
    (tie.spec
    (λ c κs. search rules)
    (λ c. search rules)
    (λ c κs. search rules)
    (λ c. search rules)
    returns)
