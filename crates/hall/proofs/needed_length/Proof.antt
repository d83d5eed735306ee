-- A row behind the last version room would begin at the needed length; sizes that fit keep that place in range.
use native.Mathlib.Omega.{arith}
use borrow.Author.Rules.{rules}
use Rattle.hall.proofs.needed_length.Statement.{statement}
use Rattle.hall.proofs.needed_length.Tie as tie

pub needed_length_spec : {M : Type 1} → statement M
needed_length_spec = tie.close (tie.spec (λ c κs. omega arith) (λ c. search rules))
