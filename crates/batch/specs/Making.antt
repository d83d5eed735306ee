-- The records of a batch made one after the other, each with its answer in the output.
use Rattle.std.specs.Prelude.{ℕ, suc, ◌+◌, ◌*◌, ◌≤◌, ◌≡◌, List, [], ◌∷◌, length}
use Rattle.std.proofs.lemmas.List.Edits.{sets}
use Rattle.model.specs.Sizes.{number_width}
use Rattle.model.specs.Bytes.{Bytes, part, num}
use Rattle.model.specs.Load.{Parsed, got, bad}
use Rattle.model.specs.Calls.{Call, begin, on, sweep, Answer}
use Rattle.model_batch.specs.Items.{Who, started, placed, Item, begins, acts, sweeps}
use Rattle.model_batch.specs.Decoder.{read_batch}
use Rattle.model_batch.specs.Answers.{head_width, detail, detail_width, answers_width}
use Rattle.bridge.specs.Store.{Sound, Memories}
use Rattle.batch_items.specs.declared.Item as declared
use Rattle.batch_items.specs.Papers.{paper_item, Spans, marks_of}
use Rattle.batch_heads.specs.Heads.{HasHead, headed}
use Rattle.batch_calls.specs.Done.{Doing, Did}
use Rattle.batch.specs.Batches.{made_on}

-- ---- one record

-- the start that a transaction has: by place, the number at the head of its begin's answer
unfoldable pub start_in : (out : Bytes) → Who → ℕ
start_in o (started t) = t
start_in o (placed p) = num (part o (head_width * p) number_width)

unfoldable pub call_in : (out : Bytes) → Item → Call
call_in o begins = begin
call_in o (acts w a) = on (start_in o w) a
call_in o (sweeps l) = sweep l

-- that head is there
unfoldable pub Answered : (out : Bytes) → Who → Type 0
Answered o (started t) = Unit {0}
Answered o (placed p) = HasHead o p

unfoldable pub Resolved : (out : Bytes) → Item → Type 0
Resolved o begins = Unit {0}
Resolved o (acts w a) = Answered o w
Resolved o (sweeps l) = Unit {0}

-- what the record i of the batch x asks for, with its details at `at`
pub record Makes (h d x out : Bytes) (i at : ℕ) (item : declared.Item) : Type 0 where
  pub doing : Doing h d out i at (paper_item x item)
  pub spans : Spans x item
  pub resolved : Resolved out (paper_item x item)

-- and what it leaves
abbrev pub Recorded : (h d h' d' x before after : Bytes) (i at : ℕ) → declared.Item → Type 0
Recorded h d h' d' x before after i at item =
    Did h d h' d' before after i at (paper_item x item) (call_in before (paper_item x item))

-- ---- all records

-- the output after the answers to the items from i on, with details from `at` on
unfoldable pub written : (out : Bytes) (i at : ℕ) → List Item → List (Answer × Bytes) → Bytes
written o i at [] rs = o
written o i at (j ∷ is) [] = o
written o i at (j ∷ is) (r ∷ rs) =
    written (sets (headed o i r.0) at (detail j r)) (suc i) (at + detail_width j) is rs

-- the items of a batch that is whole
abbrev items_of : Parsed (List Item) → List Item
items_of (got is at rest) = is
items_of (bad n at) = []

unfoldable pub items_in : Bytes → List Item
items_in x = items_of (read_batch x)

-- the batch x is whole, `begins` marks the begins among its items, and the output has room for their answers
pub record Ready (h d x begins out : Bytes) (n : ℕ) : Type 0 where
  pub sound : Sound h d
  pub whole : read_batch x ≡ got (items_in x) (length x) []
  pub count : n ≡ length (items_in x)
  pub marks : begins ≡ marks_of (items_in x)
  pub room : answers_width (items_in x) ≤ length out

-- the items were made on the memories m, which turned into m', and the output `before` into `after`
pub record AllMade (m m' : Memories) (before after : Bytes) (is : List Item) : Type 0 where
  pub memories : m' ≡ (made_on m [] is).memories
  pub output : after ≡ written before 0 (head_width * length is) is (made_on m [] is).responses
