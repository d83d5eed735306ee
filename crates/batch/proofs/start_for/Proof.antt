-- By start it is that start; by place the number at the head there.
use native.Mathlib.Omega.{arith}
use borrow.Author.Rules.{rules}
use Rattle.batch.specs.Making.{start_in, Answered}
use Rattle.batch.proofs.start_for.Statement.{statement}
use Rattle.batch.proofs.start_for.Tie as tie

start_of_requires : tie.Need-start_of-requires
unfolding Answered
start_of_requires c κs =
    omega (arith, rw c.in-Place.is at c.requires)

returns : tie.Need-returns-in-Start
unfolding start_in
returns c = rw c.in-Start.is

returns_2 : tie.Need-returns-in-Place
unfolding start_in
returns_2 c = rw c.in-Place.is c.start_of.ensures

pub start_for_spec : {M : Type 1} → statement M
start_for_spec = tie.close (tie.spec (λ c. search rules) (λ c. search rules) start_of_requires returns returns_2)
