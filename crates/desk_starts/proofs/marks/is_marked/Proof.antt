-- `place_of` is below the count of marks, so there is a byte, and a mark is one that is not 0.
use native.Mathlib.Omega.{arith}
use borrow.Author.Rules.{rules}
use Rattle.desk_starts.proofs.marks.is_marked.Statement.{statement}
use Rattle.desk_starts.proofs.marks.is_marked.Tie as tie

pub is_marked_spec : {M : Type 1} → statement M
is_marked_spec =
    tie.close
    (tie.spec
    (λ c κs. search rules)
    (λ c. omega (arith, c.place_of.ensures, c.requires))
    (λ c. rw c.place_of.ensures))
