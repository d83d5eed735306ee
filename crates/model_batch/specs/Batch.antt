-- A batch: its items as single calls, one after the other; and runs with batches among their calls.
use Rattle.std.specs.Prelude.{ℕ, Bool, true, ◌&&◌, cond, List, [], ◌∷◌, ◌++◌, map, ltb, eqb}
use Rattle.model.specs.Bytes.{Bytes, are_bytes}
use Rattle.model.specs.State.{Store}
use Rattle.model.specs.Load.{Parsed, got, bad}
use Rattle.model.specs.Calls.{Call, Answer, refused, faulty, dumped, refusal, answer, next}
use Rattle.model.specs.Runs.{run, response, responses}
use Rattle.model.specs.History.{in_bytes}
use Rattle.model_batch.specs.Items.{Item, item_kind, call_of}
use Rattle.model_batch.specs.Decoder.{read_batch}
use Rattle.model_batch.specs.Answers.{answers_bytes, answers_width}
use Rattle.model_batch.specs.Reader.{read_answers}

-- ---- the single calls

unfoldable pub calls_of : Store → (before : List Answer) → List Item → List Call
calls_of s l [] = []
calls_of s l (i ∷ is) = call_of l i ∷ calls_of (next s (call_of l i)) (l ++ answer s (call_of l i) ∷ []) is

-- the calls of a whole batch, and what they answer
abbrev pub batch_calls : Store → List Item → List Call
batch_calls s is = calls_of s [] is

abbrev pub answers_to : Store → List Call → List Answer
answers_to s cs = map (λ (r : Answer × Bytes). r.0) (responses s cs)

-- ---- the batch

-- what a batch answers, the bytes of the single answers, and the store after it
pub record Batched : Type 0 where
  pub answer : Answer
  pub bytes : Bytes
  pub store : Store

-- the items made singly
abbrev pub made : Store → List Item → Batched
made s is = record {
  answer = dumped (answers_width is);
  bytes = answers_bytes is (responses s (batch_calls s is));
  store = run s (batch_calls s is);
}

abbrev pub turned_away : Store → Answer → Batched
turned_away s a = record { answer = a; bytes = []; store = s }

-- where the answers have `room` bytes
unfoldable pub makes : Store → (room : ℕ) → Parsed (List Item) → Batched
makes s room (bad n at) = turned_away s (faulty n at)
makes s room (got is at r) = cond (ltb room (answers_width is)) (turned_away s (refused 12)) (made s is)

unfoldable pub batch : Store → (room : ℕ) → Bytes → Batched
batch s room x = makes s room (read_batch x)

-- ---- runs with batches

pub data Turn : Type 0 where
  single : Call → Turn
  batched : (room : ℕ) → Bytes → Turn

unfoldable pub turn : Store → Turn → Store
turn s (single c) = next s c
turn s (batched room x) = (batch s room x).store

unfoldable pub turns : Store → List Turn → Store
turns s [] = s
turns s (t ∷ ts) = turns (turn s t) ts

-- what a caller reads out of a batch that it knows the items of
unfoldable pub read_out : Parsed (List Item) → Batched → List (Answer × Bytes)
read_out (bad n at) b = []
read_out (got is at r) b = cond (eqb (refusal b.answer) 0) (read_answers (map item_kind is) b.bytes) []

-- what the callers see of turns
unfoldable pub seen : Store → Turn → List (Answer × Bytes)
seen s (single c) = response s c ∷ []
seen s (batched room x) = read_out (read_batch x) (batch s room x)

unfoldable pub all_seen : Store → List Turn → List (Answer × Bytes)
all_seen s [] = []
all_seen s (t ∷ ts) = seen s t ++ all_seen (turn s t) ts

-- the single calls that a batch counts as: a refused one as none
unfoldable pub calls_in : Store → (room : ℕ) → Parsed (List Item) → List Call
calls_in s room (bad n at) = []
calls_in s room (got is at r) = cond (ltb room (answers_width is)) [] (batch_calls s is)

unfoldable pub singles : Store → List Turn → List Call
singles s [] = []
singles s (single c ∷ ts) = c ∷ singles (next s c) ts
singles s (batched room x ∷ ts) = calls_in s room (read_batch x) ++ singles (batch s room x).store ts

-- what comes in is bytes
unfoldable pub turns_in_bytes : List Turn → Bool
turns_in_bytes [] = true
turns_in_bytes (single c ∷ ts) = in_bytes c && turns_in_bytes ts
turns_in_bytes (batched room x ∷ ts) = are_bytes x && turns_in_bytes ts
