-- Each taken desk has its bit set and no other bit is, so the ones count the open desks.
use mathlib.Core.Path.{◌∙◌}
use native.Mathlib.Omega.{arith}
use borrow.Author.Rules.{rules}
use lib.Count.{ones-le}
use Rattle.model.specs.Sizes.{max_desks}
use Rattle.desk.specs.Layout.{desks_in}
use Rattle.desk.proofs.Laws.Bits.{ones_open}
use Rattle.desk.proofs.Laws.Shaped.{occupied_in_lem}
use Rattle.desk.proofs.desks.open_desks.Statement.{statement}
use Rattle.desk.proofs.desks.open_desks.Tie as tie

cast_result : tie.Need-overflow_cast-result
cast_result c = omega (arith, ones-le max_desks c.occupied.result (omega arith))

returns : tie.Need-returns
returns c =
    rw (c.occupied.ensures ∙ occupied_in_lem c.args.m.now c.requires)
    (ones_open (desks_in c.args.m.now))

pub open_desks_spec : {M : Type 1} → statement M
open_desks_spec = tie.close (tie.spec (λ c κs. search rules) cast_result returns)
