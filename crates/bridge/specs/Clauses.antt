-- What the contracts of the calls say: the answer, and the bytes of each memory that the call may write,
-- are the model's.
use Rattle.std.specs.Prelude.{ℕ, ◌≡◌, [], length, Option}
use Rattle.model.specs.Bytes.{Bytes}
use Rattle.model.specs.Calls.{commit_to, dump, Call, on, ask, Clashes, Answer, clashes_of}
use Rattle.memory.specs.Spans.{overlay}
use Rattle.answers.specs.declared.Committed.{Committed}
use Rattle.answers.specs.declared.Recorded.{Recorded}
use Rattle.answers.specs.Paper.{paper_committed, Counts}
use Rattle.cells.specs.Cells.{listed}
use Rattle.bridge.specs.Store.{answer_on, bytes_on, hall_after, desk_after}

-- a call that turned the memories h and d into h' and d' and answered a
pub record Called (h d h' d' : Bytes) (c : Call) (a : Answer) : Type 0 where
  pub answer : a ≡ answer_on h d c
  pub hall : h' ≡ hall_after h d c
  pub desk : d' ≡ desk_after h d c

-- a call that writes desk memory alone
pub record DeskCalled (h d d' : Bytes) (c : Call) (a : Answer) : Type 0 where
  pub answer : a ≡ answer_on h d c
  pub desk : d' ≡ desk_after h d c

-- a call that writes hall memory alone
pub record HallCalled (h d h' : Bytes) (c : Call) (a : Answer) : Type 0 where
  pub answer : a ≡ answer_on h d c
  pub hall : h' ≡ hall_after h d c

-- a dump of hall memory h, which turned the output `before` into `after` and answered a
pub record DumpCalled (h before after : Bytes) (a : Answer) : Type 0 where
  pub answer : a ≡ answer_on h [] (ask (dump (length before)))
  pub output : after ≡ overlay (bytes_on h [] (ask (dump (length before)))) before

-- the clashes that a commit under start t lists
abbrev pub clashes_on : (j : Option ℕ) → (h d : Bytes) → (t : ℕ) → Clashes
clashes_on j h d t = clashes_of (answer_on h d (on t (commit_to j)))

-- a commit under start t, which answered r and turned the output `before` into `after`: a conflict has the number of
-- clashes, and the output those of them that it has room for; it stays as it was if there are none
pub record Committing (j : Option ℕ) (h d h' d' before after : Bytes) (t : ℕ) (r : Committed) : Type 0 where
  pub called : Called h d h' d' (on t (commit_to j)) (paper_committed (clashes_on j h d t) r)
  pub count : Counts (clashes_on j h d t) r
  pub output : after ≡ overlay (listed (length before) (clashes_on j h d t)) before

-- the record that a commit under start t writes
abbrev pub record_on : (j : Option ℕ) → (h d : Bytes) → (t : ℕ) → Bytes
record_on j h d t = bytes_on h d (on t (commit_to j))

-- a commit which turned its journal `blank` into `filled`: the record is at the front, and its length told
pub record Recording (j : Option ℕ) (h d h' d' before after blank filled : Bytes) (t : ℕ) (r : Recorded) : Type 0 where
  pub commits : Committing j h d h' d' before after t r.answer
  pub size : r.length ≡ length (record_on j h d t)
  pub output : filled ≡ overlay (record_on j h d t) blank
