-- The paper of each answer: the number (docs/RULES.md, 5.1) and values that the model answers.
use Rattle.std.specs.Prelude.{ℕ, ◌≡◌, length}
use Rattle.model.specs.Calls as calls
use Rattle.model.specs.Calls.{Clashes, Answer, refused, faulty, conflict}
use Rattle.answers.specs.declared.Refusal.{Refusal}
use Rattle.answers.specs.declared.Refusal.TheVariants.{Unsound, BadSizes, BadKey, LongValue, NotOpen, DesksTaken, TooManyWrites, Spent, NoKeyRoom, NoVersionRoom, ShortOutput, OutOfReach, DesksOpen}
use Rattle.answers.specs.declared.Done.{Done}
use Rattle.answers.specs.declared.Done.TheVariants as done
use Rattle.answers.specs.declared.Loaded.{Loaded}
use Rattle.answers.specs.declared.Loaded.TheVariants as loaded
use Rattle.answers.specs.declared.Begun.{Begun}
use Rattle.answers.specs.declared.Begun.TheVariants as begun
use Rattle.answers.specs.declared.Found.{Found}
use Rattle.answers.specs.declared.Found.TheVariants as found
use Rattle.answers.specs.declared.Committed.{Committed}
use Rattle.answers.specs.declared.Committed.TheVariants as committed
use Rattle.answers.specs.declared.Swept.{Swept}
use Rattle.answers.specs.declared.Swept.TheVariants as swept
use Rattle.answers.specs.declared.Thinned.{Thinned}
use Rattle.answers.specs.declared.Thinned.TheVariants as thinned
use Rattle.answers.specs.declared.Counted.{Counted}
use Rattle.answers.specs.declared.Counted.TheVariants as counted
use Rattle.answers.specs.declared.Dumped.{Dumped}
use Rattle.answers.specs.declared.Dumped.TheVariants as dumped
use Rattle.answers.specs.declared.Replayed.{Replayed}
use Rattle.answers.specs.declared.Replayed.TheVariants as replayed
use Rattle.answers.specs.declared.Batched.{Batched}
use Rattle.answers.specs.declared.Batched.TheVariants as batched

abbrev pub number_of : Refusal → ℕ
number_of Unsound = 1
number_of BadSizes = 2
number_of BadKey = 3
number_of LongValue = 4
number_of NotOpen = 5
number_of DesksTaken = 6
number_of TooManyWrites = 7
number_of Spent = 8
number_of NoKeyRoom = 10
number_of NoVersionRoom = 11
number_of ShortOutput = 12
number_of OutOfReach = 16
number_of DesksOpen = 17

abbrev pub paper_done : Done → Answer
paper_done done.Done = calls.done
paper_done (done.Refused r) = refused (number_of r)

abbrev pub paper_loaded : Loaded → Answer
paper_loaded loaded.Done = calls.done
paper_loaded (loaded.CutShort at) = faulty 13 at
paper_loaded (loaded.Malformed at) = faulty 14 at
paper_loaded (loaded.TooBig at) = faulty 15 at
paper_loaded (loaded.Refused r) = refused (number_of r)

abbrev pub paper_begun : Begun → Answer
paper_begun (begun.As t d) = calls.began t.0 d
paper_begun (begun.Refused r) = refused (number_of r)

abbrev pub paper_found : Found → Answer
paper_found found.OwnValue = calls.found calls.own_value
paper_found found.HallValue = calls.found calls.hall_value
paper_found found.NothingThere = calls.found calls.nothing_there
paper_found (found.Refused r) = refused (number_of r)

-- a conflict stands for the clashes cs
abbrev pub paper_committed : (cs : Clashes) → Committed → Answer
paper_committed cs (committed.As n) = calls.committed n.0
paper_committed cs committed.Closed = calls.closed
paper_committed cs (committed.Conflict n) = conflict cs
paper_committed cs (committed.Refused r) = refused (number_of r)

-- and has their number
abbrev pub Counts : (cs : Clashes) → Committed → Type 0
Counts cs (committed.As n) = Unit {0}
Counts cs committed.Closed = Unit {0}
Counts cs (committed.Conflict n) = n ≡ length cs
Counts cs (committed.Refused r) = Unit {0}

abbrev pub paper_swept : Swept → Answer
paper_swept (swept.At c d) = calls.swept c d
paper_swept (swept.Refused r) = refused (number_of r)

abbrev pub paper_thinned : Thinned → Answer
paper_thinned (thinned.Dropped d) = calls.thinned d
paper_thinned (thinned.Refused r) = refused (number_of r)

abbrev pub paper_counted : Counted → Answer
paper_counted (counted.Held k v d) = calls.counted k v d
paper_counted (counted.Refused r) = refused (number_of r)

abbrev pub paper_dumped : Dumped → Answer
paper_dumped (dumped.Bytes n) = calls.dumped n
paper_dumped (dumped.Refused r) = refused (number_of r)

abbrev pub paper_replayed : Replayed → Answer
paper_replayed (replayed.UpTo at) = calls.replayed at
paper_replayed (replayed.Malformed at) = faulty 14 at
paper_replayed (replayed.NoKeyRoom at) = faulty 10 at
paper_replayed (replayed.NoVersionRoom at) = faulty 11 at
paper_replayed (replayed.Refused r) = refused (number_of r)

abbrev pub paper_batched : Batched → Answer
paper_batched (batched.Answers n) = calls.dumped n
paper_batched (batched.Malformed at) = faulty 18 at
paper_batched (batched.Reserved at) = faulty 19 at
paper_batched (batched.Refused r) = refused (number_of r)
