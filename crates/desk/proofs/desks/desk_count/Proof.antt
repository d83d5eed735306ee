-- The count's byte says how many desks are read, so it is how many there are.
use mathlib.Core.Path.{sym}
use native.Mathlib.Omega.{arith}
use borrow.Author.Rules.{rules}
use Rattle.desk.specs.Layout.{desk_count_place}
use Rattle.desk.proofs.Laws.Layout.{length_in}
use Rattle.desk.proofs.desks.desk_count.Statement.{statement}
use Rattle.desk.proofs.desks.desk_count.Tie as tie

cast_result : tie.Need-overflow_cast-result
cast_result c = omega (arith, c.shared_slice_known-1.given desk_count_place)

returns : tie.Need-returns
returns c = sym (length_in c.args.m.now)

pub desk_count_spec : {M : Type 1} → statement M
desk_count_spec = tie.close (tie.spec (λ c. search rules) cast_result returns)
