-- `number_at` gives the version's number, and `sees` compares it with the start.
use borrow.Author.Rules.{rules}
use Rattle.hall.proofs.versions.is_seen.Statement.{statement}
use Rattle.hall.proofs.versions.is_seen.Tie as tie

returns : tie.Need-returns
returns c = rw (← c.number_at-number.ensures) c.sees.ensures

pub is_seen_spec : {M : Type 1} → statement M
is_seen_spec = tie.close (tie.spec (λ c κs. search rules) (λ c κs. search rules) returns)
