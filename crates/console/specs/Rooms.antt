-- How long the console's memories are.
use Rattle.std.specs.Prelude.{ℕ, ◌+◌, ◌*◌, ◌^◌, ◌≤◌, ◌≡◌, length}
use Rattle.model.specs.Sizes.{max_writes}
use Rattle.model.specs.Bytes.{Bytes}
use Rattle.model.specs.Dump.{dump_hall}
use Rattle.model_batch.specs.Items.{max_items}
use Rattle.model_batch.specs.Answers.{head_width, clash_width}
use Rattle.hall.specs.Layout.{hall_in, Sound}

-- what is lent past the bytes that a store needs
abbrev pub past : ℕ
past = 64

-- hall memory; larger stores are refused
abbrev pub hall_room : ℕ
hall_room = 2 ^ 20

-- the bytes that a line says, and any dump of what hall memory holds
abbrev pub spare : ℕ
spare = 2 ^ 20 + 2 ^ 12

-- a line that says so many in hex, and its end
abbrev pub line : ℕ
line = 2 * spare + 1

-- the longest output of a batch, all commits, after answers that are not written yet; such a dump in hex takes less
abbrev pub answers : ℕ
answers = max_items * (head_width + max_writes * clash_width) + 65548

-- a dump of what hall memory holds fits the spare memory, and so a line
abbrev pub DumpFits : Type 0
DumpFits = (m : Bytes) → length m ≡ hall_room + past → Sound m → length (dump_hall (hall_in m)) ≤ spare
