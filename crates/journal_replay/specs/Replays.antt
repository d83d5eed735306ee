-- What the records of a journal do to two memories.
use Rattle.std.specs.Prelude.{ℕ, ◌≤◌, ◌<◌, ◌≡◌, true, cond, List, [], eqb, length, set}
use Rattle.model.specs.Sizes.{max_writes, last_number, number_width}
use Rattle.model.specs.Bytes.{Bytes, part, num}
use Rattle.model.specs.State.{Writes, Desk, taken, open_desks}
use Rattle.model.specs.Sound.{sound_writes}
use Rattle.model.specs.Load.{fault}
use Rattle.model.specs.Journal.{Commit, with_commit, with_commits}
use Rattle.model.specs.Calls.{Answer, faulty, replayed, rooms, replay_of}
use Rattle.hall.specs.Layout as hall
use Rattle.hall.specs.Layout.{hall_in, put_hall}
use Rattle.desk.specs.Layout.{desks_in}
use Rattle.desk.specs.Shape.{Shaped}
use Rattle.hall_sought.specs.Sought.{writes_in, Ready}
use Rattle.journal_stage.specs.Staging.{writes_of, Body}
use Rattle.journal_replay.specs.declared.Stopped.{Stopped}
use Rattle.journal_replay.specs.declared.Stopped.TheVariants.{Ended, Malformed, NoKeyRoom, NoVersionRoom}

-- ---- the desk that records go through

-- desk memory of which the form is known: there are desks, and none of them is taken
pub record Vacant (m : Bytes) : Type 0 where
  pub shaped : Shaped m
  pub some : 1 ≤ length (desks_in m)
  pub none : open_desks (desks_in m) ≡ 0

-- the first desk with these writes, and a start that no transaction has
abbrev pub staged : Writes → List Desk → List Desk
staged ws ds = set ds 0 (taken (record { start = 0; writes = ws }))

-- ---- one record

-- the commit of the body x
abbrev pub commit_of : Bytes → Commit
commit_of x = record { number = num (part x 0 number_width); writes = writes_of x }

-- its body is that of a lawful commit, for the hall in h
pub record Lawful (h x : Bytes) : Type 0 where
  pub body : Body x
  pub long : number_width ≤ length x
  pub later : (hall_in h).counter < num (part x 0 number_width)
  pub low : num (part x 0 number_width) ≤ last_number
  pub writes : sound_writes [] (writes_of x) ≡ true

-- two memories that can do its record
pub record Doable (h d x : Bytes) : Type 0 where
  pub hall : hall.Sound h
  pub desk : Vacant d
  pub lawful : Lawful h x

-- the writes of the first desk can be published under number n
pub record Offered (h d : Bytes) (n : ℕ) : Type 0 where
  pub ready : Ready h d 0
  pub later : (hall_in h).counter < n
  pub low : n ≤ last_number
  pub few : length (writes_in d 0) ≤ max_writes
  pub writes : sound_writes [] (writes_in d 0) ≡ true

-- hall memory h became h' by the commit c, or r refused it for lack of room
pub record Committed (h : Bytes) (c : Commit) (h' : Bytes) (r : ℕ) : Type 0 where
  pub lack : r ≡ fault (rooms (hall_in h) c.writes)
  pub hall : h' ≡ cond (eqb r 0) (put_hall h (with_commit (hall_in h) c)) h

-- ---- all of them

abbrev pub paper_stopped : Stopped → Answer
paper_stopped (Ended at) = replayed at
paper_stopped (Malformed at) = faulty 14 at
paper_stopped (NoKeyRoom at) = faulty 10 at
paper_stopped (NoVersionRoom at) = faulty 11 at

-- what a replay of x leaves of h and d, and its answer
pub record Replayed (h d x h' d' : Bytes) (a : Answer) : Type 0 where
  pub answer : a ≡ (replay_of (hall_in h) 0 x).answer
  pub hall : h' ≡ put_hall h (with_commits (hall_in h) (replay_of (hall_in h) 0 x).commits)
  pub desk : d' ≡ d
