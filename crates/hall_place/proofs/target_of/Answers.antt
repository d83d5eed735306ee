-- The version row begun last is low enough to have a place, behind which its fields are.
use Rattle.std.proofs.Common.{arith}
use Rattle.hall_place.proofs.Laws.{row_below}
use Rattle.hall_place.proofs.target_of.Goals as goal

pub version_place-requires : goal.version_place-requires
version_place-requires c =
    (c.requires.rooms, rw c.version_row-version.ensures (row_below c.args.s c.args.g (c.requires.keys, c.requires.versions)))

pub target_at-requires : goal.target_at-requires
target_at-requires c =
    (omega arith, omega (arith, row_below c.args.s c.args.g (c.requires.keys, c.requires.versions)))
