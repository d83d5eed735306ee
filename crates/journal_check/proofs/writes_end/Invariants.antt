-- From here the writes to come end as all of them do.
use Rattle.std.proofs.Common.{◌≡◌, ◌-◌, ◌≤◌, [], length, drop}
use Rattle.model.specs.Journal.{read_writes}
use Rattle.journal_check.specs.Records.{end_of}
use Rattle.journal_check.proofs.writes_end.Given as goal

abbrev pub invariant-loop : goal.invariant-loop
invariant-loop l =
    (l.at ≤ length l.x)
    × (end_of (read_writes l.n [] l.from (drop l.from l.x)) ≡ end_of (read_writes (l.n - l.counter) l.last l.at (drop l.at l.x)))
