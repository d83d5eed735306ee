-- The number is read where the head stands.
use native.Mathlib.Nat.{add-zero}
use borrow.Author.Rules.{rules}
use Rattle.batch_heads.proofs.start_of.Statement.{statement}
use Rattle.batch_heads.proofs.start_of.Tie as tie

returns : tie.Need-returns
returns c =
    simp (add-zero, c.place.ensures) at c.read64.ensures

pub start_of_spec : {M : Type 1} → statement M
start_of_spec = tie.close (tie.spec (λ c κs. search rules) (λ c. search rules) (λ c κs. search rules) returns)
