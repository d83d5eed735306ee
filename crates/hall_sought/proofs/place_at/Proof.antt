-- A gap is an even number and a row an odd one, so the remainder tells which it is.
use borrow.Author.Rules.{rules}
use borrow.Author.Tests.{eq-eqb, ne_eqb}
use Rattle.hall_sought.proofs.place_at.Statement.{statement}
use Rattle.hall_sought.proofs.place_at.Tie as tie

returns : tie.Need-returns-then-c-eq0
returns c = rw (eq-eqb _ _ c.if-c-eq0.true)

returns_2 : tie.Need-returns
returns_2 c = rw (ne_eqb _ _ c.if-c-eq0.false)

pub place_at_spec : {M : Type 1} → statement M
place_at_spec = tie.close (tie.spec (λ c. search rules) (λ c. search rules) returns returns_2)
