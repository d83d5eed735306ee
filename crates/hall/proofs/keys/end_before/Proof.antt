-- Before the first row no older version stands; before any other, the row before it has the end.
use native.Mathlib.Omega.{arith}
use borrow.Author.Rules.{rules}
use Rattle.hall.specs.Tables.{end_before}
use Rattle.hall.proofs.Laws.Rows.{end_before_is}
use Rattle.hall.proofs.keys.end_before.Statement.{statement}
use Rattle.hall.proofs.keys.end_before.Tie as tie

returns : tie.Need-returns-then-i-eq0
unfolding end_before
returns c = rw c.if-i-eq0.true

returns_2 : tie.Need-returns
returns_2 c = end_before_is 0 _ (omega arith) c.end_at.ensures

pub end_before_spec : {M : Type 1} → statement M
end_before_spec = tie.close (tie.spec returns (λ c. search rules) (λ c κs. search rules) returns_2)
