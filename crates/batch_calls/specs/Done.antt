-- One record of a batch, done as the single call would be, with its answer in the output.
use Rattle.std.specs.Prelude.{ℕ, ◌+◌, ◌*◌, ◌≤◌, ◌≡◌, length, None}
use Rattle.std.proofs.lemmas.List.Edits.{sets}
use Rattle.model.specs.Sizes.{max_writes}
use Rattle.model.specs.Bytes.{Bytes}
use Rattle.model.specs.Calls.{commit, Call, on}
use Rattle.model_batch.specs.Items.{Item}
use Rattle.model_batch.specs.Answers.{head_width, padded, clash_width, clashes_bytes, detail, detail_width}
use Rattle.answers.specs.declared.Committed.{Committed}
use Rattle.answers.specs.Paper.{paper_committed, Counts}
use Rattle.bridge.specs.Store.{answer_on, bytes_on, hall_after, desk_after, Sound}
use Rattle.bridge.specs.Clauses.{Called, clashes_on}
use Rattle.batch_heads.specs.Heads.{HasHead, headed}

-- what record i asks for, if it has no details: sound memories, and room for its head
pub record Heading (h d out : Bytes) (i : ℕ) : Type 0 where
  pub sound : Sound h d
  pub head : HasHead out i

-- the same of any record: its details go to `at`, behind its head, and have room there
pub record Doing (h d out : Bytes) (i at : ℕ) (item : Item) : Type 0 where
  pub sound : Sound h d
  pub head : head_width * i + head_width ≤ at
  pub details : at + detail_width item ≤ length out

-- record i is done: its call c turned the memories h and d into h' and d', and its head and its details stand in the
-- output, which was `before` and is `after`
pub record Did (h d h' d' before after : Bytes) (i at : ℕ) (item : Item) (c : Call) : Type 0 where
  pub hall : h' ≡ hall_after h d c
  pub desk : d' ≡ desk_after h d c
  pub output : after ≡ sets (headed before i (answer_on h d c)) at (detail item (answer_on h d c, bytes_on h d c))

-- the same of a record without details, wherever they would go
abbrev pub DidPlain : (h d h' d' before after : Bytes) (i : ℕ) → Item → Call → Type 0
DidPlain h d h' d' before after i item c = (at : ℕ) → Did h d h' d' before after i at item c

-- a commit under start t, which answered r and left its clashes in an output that has just their room
pub record CommitListed (h d h' d' after : Bytes) (t : ℕ) (r : Committed) : Type 0 where
  pub called : Called h d h' d' (on t commit) (paper_committed (clashes_on None h d t) r)
  pub count : Counts (clashes_on None h d t) r
  pub output : after ≡ padded (max_writes * clash_width) (clashes_bytes (clashes_on None h d t))
