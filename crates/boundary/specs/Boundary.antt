-- How answers cross to C. A struct begins with the refusal's number, zero if there is none; each field of which the
-- answer does not speak is zero.
use Rattle.std.specs.Prelude.{ℕ, ◌<◌, ◌≡◌}
use Rattle.answers.specs.declared.Done.{Done}
use Rattle.answers.specs.declared.Done.TheVariants as done
use Rattle.answers.specs.declared.Loaded.{Loaded}
use Rattle.answers.specs.declared.Loaded.TheVariants as loaded
use Rattle.answers.specs.declared.Begun.{Begun}
use Rattle.answers.specs.declared.Begun.TheVariants as begun
use Rattle.answers.specs.declared.Committed.{Committed}
use Rattle.answers.specs.declared.Committed.TheVariants as committed
use Rattle.answers.specs.declared.Recorded.{Recorded}
use Rattle.answers.specs.declared.Swept.{Swept}
use Rattle.answers.specs.declared.Swept.TheVariants as swept
use Rattle.answers.specs.declared.Thinned.{Thinned}
use Rattle.answers.specs.declared.Thinned.TheVariants as thinned
use Rattle.answers.specs.declared.Counted.{Counted}
use Rattle.answers.specs.declared.Counted.TheVariants as counted
use Rattle.answers.specs.declared.Dumped.{Dumped}
use Rattle.answers.specs.declared.Dumped.TheVariants as dumped
use Rattle.answers.specs.declared.Replayed.{Replayed}
use Rattle.answers.specs.declared.Replayed.TheVariants as replayed
use Rattle.answers.specs.declared.Batched.{Batched}
use Rattle.answers.specs.declared.Batched.TheVariants as batched
use Rattle.answers.specs.Paper.{number_of}
use Rattle.hall_values.specs.declared.Placed.{Placed}
use Rattle.hall_values.specs.declared.Placed.TheVariants as placed
use Rattle.boundary.specs.declared.HbLoaded.{HbLoaded}
use Rattle.boundary.specs.declared.HbBegun.{HbBegun}
use Rattle.boundary.specs.declared.HbFound.{HbFound}
use Rattle.boundary.specs.declared.HbCommitted.{HbCommitted}
use Rattle.boundary.specs.declared.HbRecorded.{HbRecorded}
use Rattle.boundary.specs.declared.HbSwept.{HbSwept}
use Rattle.boundary.specs.declared.HbThinned.{HbThinned}
use Rattle.boundary.specs.declared.HbCounted.{HbCounted}
use Rattle.boundary.specs.declared.HbDumped.{HbDumped}
use Rattle.boundary.specs.declared.HbReplayed.{HbReplayed}
use Rattle.boundary.specs.declared.HbBatched.{HbBatched}

-- r is the form in which C is told an answer that the contract P allows
pub record Crossed {A R : Type 0} (form : A → R) (P : A → Type 0) (r : R) : Type 0 where
  pub answer : A
  pub call : P answer
  pub same : r ≡ form answer

-- ---- each answer

-- make, put, delete and abort
abbrev pub as_done : Done → ℕ
as_done done.Done = 0
as_done (done.Refused x) = number_of x

abbrev pub as_loaded : Loaded → HbLoaded
as_loaded loaded.Done = record { refusal = 0; offset = 0 }
as_loaded (loaded.CutShort at) = record { refusal = 13; offset = at }
as_loaded (loaded.Malformed at) = record { refusal = 14; offset = at }
as_loaded (loaded.TooBig at) = record { refusal = 15; offset = at }
as_loaded (loaded.Refused x) = record { refusal = number_of x; offset = 0 }

abbrev pub as_begun : Begun → HbBegun
as_begun (begun.As t d) = record { refusal = 0; start = t.0; desk = d }
as_begun (begun.Refused x) = record { refusal = number_of x; start = 0; desk = 0 }

abbrev pub as_swept : Swept → HbSwept
as_swept (swept.At c d) = record { refusal = 0; cutoff = c; dropped = d }
as_swept (swept.Refused x) = record { refusal = number_of x; cutoff = 0; dropped = 0 }

abbrev pub as_thinned : Thinned → HbThinned
as_thinned (thinned.Dropped d) = record { refusal = 0; dropped = d }
as_thinned (thinned.Refused x) = record { refusal = number_of x; dropped = 0 }

abbrev pub as_counted : Counted → HbCounted
as_counted (counted.Held k v d) = record { refusal = 0; keys = k; versions = v; desks = d }
as_counted (counted.Refused x) = record { refusal = number_of x; keys = 0; versions = 0; desks = 0 }

abbrev pub as_dumped : Dumped → HbDumped
as_dumped (dumped.Bytes n) = record { refusal = 0; len = n }
as_dumped (dumped.Refused x) = record { refusal = number_of x; len = 0 }

abbrev pub as_replayed : Replayed → HbReplayed
as_replayed (replayed.UpTo at) = record { refusal = 0; offset = at }
as_replayed (replayed.Malformed at) = record { refusal = 14; offset = at }
as_replayed (replayed.NoKeyRoom at) = record { refusal = 10; offset = at }
as_replayed (replayed.NoVersionRoom at) = record { refusal = 11; offset = at }
as_replayed (replayed.Refused x) = record { refusal = number_of x; offset = 0 }

abbrev pub as_batched : Batched → HbBatched
as_batched (batched.Answers n) = record { refusal = 0; len = n; offset = 0 }
as_batched (batched.Malformed at) = record { refusal = 18; len = 0; offset = at }
as_batched (batched.Reserved at) = record { refusal = 19; len = 0; offset = at }
as_batched (batched.Refused x) = record { refusal = number_of x; len = 0; offset = 0 }

-- ---- read and newest

-- the numbers of the kinds
abbrev pub nothing_there : ℕ
nothing_there = 0

abbrev pub own_value : ℕ
own_value = 1

abbrev pub hall_value : ℕ
hall_value = 2

abbrev pub as_found : Placed → HbFound
as_found placed.Nothing = record { refusal = 0; kind = nothing_there; at = 0; len = 0 }
as_found (placed.Own p n) = record { refusal = 0; kind = own_value; at = p; len = n }
as_found (placed.Held p n) = record { refusal = 0; kind = hall_value; at = p; len = n }
as_found (placed.Refused x) = record { refusal = number_of x; kind = 0; at = 0; len = 0 }

-- ---- commit

abbrev pub as_committed : Committed → HbCommitted
as_committed (committed.As n) = record { refusal = 0; number = n.0; clashes = 0 }
as_committed committed.Closed = record { refusal = 0; number = 0; clashes = 0 }
as_committed (committed.Conflict n) = record { refusal = 9; number = 0; clashes = n }
as_committed (committed.Refused x) = record { refusal = number_of x; number = 0; clashes = 0 }

-- with the length of its record
abbrev pub as_recorded : Recorded → HbRecorded
as_recorded a =
    record {
      refusal = (as_committed a.answer).refusal;
      number = (as_committed a.answer).number;
      clashes = (as_committed a.answer).clashes;
      len = a.length;
    }

-- a number that is issued is not zero, nor is a conflict without a clash
abbrev pub Positive : Committed → Type 0
Positive (committed.As n) = 0 < n.0
Positive committed.Closed = Unit {0}
Positive (committed.Conflict n) = 0 < n
Positive (committed.Refused x) = Unit {0}
