-- A batch on two memories: what it answers, which bytes it writes over the front of its output, and what it leaves.
use Rattle.std.specs.Prelude.{ℕ, ◌≡◌, cond, List, [], ◌∷◌, ◌++◌, ltb, length}
use Rattle.model.specs.Bytes.{Bytes}
use Rattle.model.specs.Load.{Parsed, got, bad}
use Rattle.model.specs.Calls.{Answer, refused, faulty, dumped}
use Rattle.model_batch.specs.Items.{Item, call_of}
use Rattle.model_batch.specs.Decoder.{read_batch}
use Rattle.model_batch.specs.Answers.{answers_bytes, answers_width}
use Rattle.memory.specs.Spans.{overlay}
use Rattle.bridge.specs.Store.{are_sound, response_on, Memories, after_call}

-- ---- the items made singly

-- what they leave, and what each of them answered and handed back
pub record Made : Type 0 where
  pub memories : Memories
  pub responses : List (Answer × Bytes)

abbrev pub with_response : Answer × Bytes → Made → Made
with_response r x = record { memories = x.memories; responses = r ∷ x.responses }

-- on the memories m, after the answers `before`
unfoldable pub made_on : Memories → (before : List Answer) → List Item → Made
made_on m l [] = record { memories = m; responses = [] }
made_on m l (i ∷ is) =
    with_response (response_on m.hall m.desk (call_of l i))
    (made_on (after_call m (call_of l i)) (l ++ (response_on m.hall m.desk (call_of l i)).0 ∷ []) is)

-- ---- the batch

pub record Batch : Type 0 where
  pub answer : Answer
  pub bytes : Bytes
  pub memories : Memories

abbrev pub turned_away : Memories → Answer → Batch
turned_away m a = record { answer = a; bytes = []; memories = m }

abbrev pub answered : List Item → Made → Batch
answered is x = record {
  answer = dumped (answers_width is);
  bytes = answers_bytes is x.responses;
  memories = x.memories;
}

-- what was read of it, where the output has `room` bytes
unfoldable pub read_on : Memories → (room : ℕ) → Parsed (List Item) → Batch
read_on m room (bad n at) = turned_away m (faulty n at)
read_on m room (got is at rest) =
    cond (ltb room (answers_width is)) (turned_away m (refused 12)) (answered is (made_on m [] is))

-- memory is tested once, before all else
unfoldable pub batch_on : Memories → (room : ℕ) → Bytes → Batch
batch_on m room x = cond (are_sound m.hall m.desk) (read_on m room (read_batch x)) (turned_away m (refused 1))

-- a batch x, which turned the memories m into m' and its output `before` into `after`, and answered a
pub record Batching (m m' : Memories) (x before after : Bytes) (a : Answer) : Type 0 where
  pub answer : a ≡ (batch_on m (length before) x).answer
  pub memories : m' ≡ (batch_on m (length before) x).memories
  pub output : after ≡ overlay (batch_on m (length before) x).bytes before
