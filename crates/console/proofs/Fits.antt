-- A dump of what the console's hall memory holds fits its spare memory.
-- Assumes nothing.
use native.Mathlib.Omega.{arith}
use Rattle.hall.specs.Layout.{hall_in}
use Rattle.hall.proofs.Laws.Halls.{sound_sizes}
use Rattle.hall_dump.proofs.Laws.Records.{dump_sized}
use Rattle.console.specs.Rooms.{DumpFits}

-- a key's record is longer than its row by 3 bytes at most, a version's is no longer than its own
pub dump_fits : DumpFits
dump_fits m l s =
    omega (arith, l, s.long, (sound_sizes (hall_in m) s.hall).keys.1, dump_sized (hall_in m) s.hall)
