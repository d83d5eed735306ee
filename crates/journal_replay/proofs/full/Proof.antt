-- Of the two lacks, the test tells which it is.
use mathlib.Core.Logic.{⊎_elim}
use Rattle.journal_replay.proofs.full.Statement.{statement}
use Rattle.journal_replay.proofs.full.Tie as tie

returns : tie.Need-returns-then-lack-eq-NO_KEY_ROOM
returns c = rw c.if-lack-eq-NO_KEY_ROOM.true

returns_2 : tie.Need-returns
returns_2 c = ⊎_elim (λ e. absurd (c.if-lack-eq-NO_KEY_ROOM.false e)) (λ e. rw e) c.requires

pub full_spec : {M : Type 1} → statement M
full_spec = tie.close (tie.spec returns returns_2)
