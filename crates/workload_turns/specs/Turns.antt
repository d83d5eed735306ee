-- A worker's turn of the workload (docs/RULES.md, 8.4).
use Rattle.std.specs.Prelude.{ℕ, ◌-◌, Bool, ◌||◌, cond, ltb, eqb}
use Rattle.model.specs.State.{Store}
use Rattle.model.specs.Calls.{read, put, commit, abort, Call, begin, on, Answer, refused, conflict, faulty, began, found, done, committed, closed, swept, thinned, counted, dumped, replayed, refusal, answer, next}
use Rattle.workload_plan.specs.declared.choices.Choice.{Choice}
use Rattle.workload_turns.specs.declared.Seat.{Seat}
use Rattle.workload_plan.specs.Choices.{key_of, payload_of}

-- operations of one transaction
abbrev pub turn_limit : ℕ
turn_limit = 4

-- a worker's seat has its transaction's start and the operations left to it; none left, and it has no transaction
abbrev pub idle : Seat
idle = record { start = record { 0 = 0 }; turns = 0 }

-- a store, and the seat of the worker whose turn it is
pub record Scene : Type 0 where
  pub store : Store
  pub seat : Seat

-- the start that begin answered; 0, which no transaction has, if it was refused
abbrev pub start_in : Answer → ℕ
start_in (began t d) = t
start_in (refused n) = 0
start_in (conflict cs) = 0
start_in (faulty n at) = 0
start_in (found k) = 0
start_in done = 0
start_in (committed n) = 0
start_in closed = 0
start_in (swept c d) = 0
start_in (thinned d) = 0
start_in (counted k v d) = 0
start_in (dumped n) = 0
start_in (replayed n) = 0

-- a worker with no transaction begins one
unfoldable pub seated : Store → Seat → Scene
seated s w =
    cond (eqb w.turns 0)
    (record {
      store = next s begin;
      seat = record {
        start = record { 0 = start_in (answer s begin) };
        turns = turn_limit;
      };
    })
    (record { store = s; seat = w })

-- workers below the writers put, others read
unfoldable pub drawn_call : (writers : ℕ) → Choice → (start : ℕ) → Call
drawn_call writers c t =
    on t (cond (ltb c.worker writers) (put (key_of c.key) (payload_of c.payload)) (read (key_of c.key)))

abbrev pub lacks_room : Answer → Bool
lacks_room a = eqb (refusal a) 10 || eqb (refusal a) 11

-- a commit, and an abort where it lacked room
unfoldable pub finished : Store → (start : ℕ) → Store
finished s t =
    cond (lacks_room (answer s (on t commit))) (next (next s (on t commit)) (on t abort)) (next s (on t commit))

-- the worker's transaction commits after its last operation
unfoldable pub unseated : Store → Seat → Scene
unseated s w =
    record {
      store = cond (eqb (w.turns - 1) 0) (finished s w.start.0) s;
      seat = record { start = w.start; turns = w.turns - 1 };
    }

unfoldable pub turned : (writers : ℕ) → Choice → Store → Seat → Scene
turned writers c s w =
    let b = seated s w in
    unseated (next b.store (drawn_call writers c b.seat.start.0)) b.seat
