-- What holds of batches over the memories' bytes: each sentence of the request, then what it says. Proved in
-- proofs/Statements.antt.
use Rattle.std.specs.Prelude.{ℕ, suc, ◌≤◌, ◌≡◌, true, false, List, [], ◌∷◌, ◌++◌, map}
use Rattle.model.specs.Bytes.{Bytes, are_bytes}
use Rattle.model.specs.State.{Store}
use Rattle.model.specs.Load.{got}
use Rattle.model.specs.Calls.{Answer, refused, refusal}
use Rattle.model_batch.specs.Items.{Item}
use Rattle.model_batch.specs.Decoder.{read_batch}
use Rattle.model_batch.specs.Answers.{answers_width}
use Rattle.model_batch.specs.Batch.{batch_calls, batch, read_out, calls_in}
use Rattle.answers.specs.declared.Batched.{Batched}
use Rattle.answers.specs.Paper.{paper_batched}
use Rattle.bridge.specs.Store.{store_in, are_sound, Memories}
use Rattle.store.specs.Runs.{Step, call, steps_on, Steps, Hold}
use Rattle.store.specs.Demands.{responses_on}
use Rattle.batch.specs.Batches.{turned_away, answered, batch_on, Batching}

-- ---- one batch

-- "Memory is tested once, and refusal 1 comes first"
abbrev pub UnsoundFirst : Type 0
UnsoundFirst =
    (m : Memories) (room : ℕ) (x : Bytes) → are_sound m.hall m.desk ≡ false
    → batch_on m room x ≡ turned_away m (refused 1)

-- a refused batch changes not a byte of the memories, and writes none
abbrev pub RefusedKept : Type 0
RefusedKept =
    (m : Memories) (room : ℕ) (x : Bytes) (n : ℕ) → refusal (batch_on m room x).answer ≡ suc n
    → ((batch_on m room x).memories ≡ m) × ((batch_on m room x).bytes ≡ [])

-- "The answers and both memories are those of the calls made singly"
abbrev pub BatchSingly : Type 0
BatchSingly =
    (m : Memories) (s : Store) → Hold m s → (room : ℕ) (x : Bytes) → are_bytes x ≡ true
    → (is : List Item) (at : ℕ) (rest : Bytes) → read_batch x ≡ got is at rest → answers_width is ≤ room
    → batch_on m room x
    ≡ answered is (record {
      memories = steps_on m (map call (batch_calls s is));
      responses = responses_on (λ c. true) m (map call (batch_calls s is));
    })

-- it is the model's batch on the store that the memories hold
pub record Models (m : Memories) (s : Store) (room : ℕ) (x : Bytes) : Type 0 where
  pub answer : (batch_on m room x).answer ≡ (batch s room x).answer
  pub bytes : (batch_on m room x).bytes ≡ (batch s room x).bytes
  pub holds : Hold (batch_on m room x).memories (batch s room x).store

abbrev pub BatchModels : Type 0
BatchModels = (m : Memories) (s : Store) → Hold m s → (room : ℕ) (x : Bytes) → are_bytes x ≡ true → Models m s room x

-- a contract fixes everything: any two outcomes of one batch on the same memories coincide
abbrev pub FixedBatch : Type 0
FixedBatch =
    (m m₁ m₂ : Memories) (x before y z : Bytes) (a b : Batched) → Batching m m₁ x before y (paper_batched a)
    → Batching m m₂ x before z (paper_batched b) → (a ≡ b) × (m₁ ≡ m₂) × (y ≡ z)

-- ---- runs with batches

pub data Turn : Type 0 where
  step : Step → Turn
  batched : (room : ℕ) → Bytes → Turn

-- the memories after one turn, and after all
unfoldable pub turn_on : Memories → Turn → Memories
turn_on m (step x) = steps_on m (x ∷ [])
turn_on m (batched room x) = (batch_on m room x).memories

unfoldable pub turns_on : Memories → List Turn → Memories
turns_on m [] = m
turns_on m (t ∷ ts) = turns_on (turn_on m t) ts

-- bytes come in, and no step begins another run
unfoldable pub Lawful : Memories → List Turn → Type 0
Lawful m [] = Unit {0}
Lawful m (step x ∷ ts) = Steps m (x ∷ []) × Lawful (turn_on m (step x)) ts
Lawful m (batched room x ∷ ts) = (are_bytes x ≡ true) × Lawful (turn_on m (batched room x)) ts

-- the single steps that a turn counts as: "those single calls, a refused batch as none"
unfoldable pub steps_in : Memories → Turn → List Step
steps_in m (step x) = x ∷ []
steps_in m (batched room x) = map call (calls_in (store_in m.hall m.desk) room (read_batch x))

unfoldable pub singles_on : Memories → List Turn → List Step
singles_on m [] = []
singles_on m (t ∷ ts) = steps_in m t ++ singles_on (turn_on m t) ts

-- what the callers see of turns: of a batch, what is read by its items out of what it hands back
unfoldable pub seen_on : Memories → Turn → List (Answer × Bytes)
seen_on m (step x) = responses_on (λ c. true) m (x ∷ [])
seen_on m (batched room x) =
    let b = batch_on m room x in
    read_out (read_batch x)
    (record { answer = b.answer; bytes = b.bytes; store = store_in b.memories.hall b.memories.desk })

unfoldable pub all_seen_on : Memories → List Turn → List (Answer × Bytes)
all_seen_on m [] = []
all_seen_on m (t ∷ ts) = seen_on m t ++ all_seen_on (turn_on m t) ts

-- a run with batches is the run of the single steps, of which every demand holds, and its callers see what theirs do
pub record AsSteps (m : Memories) (ts : List Turn) : Type 0 where
  pub memories : turns_on m ts ≡ steps_on m (singles_on m ts)
  pub steps : Steps m (singles_on m ts)
  pub seen : all_seen_on m ts ≡ responses_on (λ c. true) m (singles_on m ts)

abbrev pub TurnsAsSteps : Type 0
TurnsAsSteps = (m : Memories) (s : Store) → Hold m s → (ts : List Turn) → Lawful m ts → AsSteps m ts
