-- A taken desk counts its writes in the byte behind its start; a free one has 0 there, and no writes.
use native.Mathlib.Omega.{arith}
use borrow.Author.Rules.{rules}
use Rattle.desk.proofs.Laws.Desks.{count_in_lem}
use Rattle.desk_writes.proofs.write_count.Statement.{statement}
use Rattle.desk_writes.proofs.write_count.Tie as tie

cast_result : tie.Need-overflow_cast-result
cast_result c = omega (arith, c.shared_slice_known-2-1.given c.write_count_place.result)

returns : tie.Need-returns
returns c =
    rw c.write_count_place.ensures
    (count_in_lem c.args.m.now c.requires.0 c.args.d c.requires.1)

pub write_count_spec : {M : Type 1} → statement M
write_count_spec = tie.close (tie.spec (λ c κs. search rules) (λ c. search rules) cast_result returns)
