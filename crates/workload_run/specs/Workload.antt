-- The seeded workload (docs/RULES.md, 8.4).
use Rattle.std.specs.Prelude.{ℕ, zero, suc, ◌≡◌, true, cond, List, [], ◌∷◌, get_or, set, replicate, eqb}
use Rattle.model.specs.Bytes.{Bytes}
use Rattle.model.specs.State.{Store}
use Rattle.model.specs.Calls.{Call}
use Rattle.model.specs.Runs.{run}
use Rattle.model.specs.History.{all_in_bytes}
use Rattle.workload_plan.specs.declared.Plan.{Plan}
use Rattle.workload_plan.specs.declared.choices.Choice.{Choice}
use Rattle.workload_turns.specs.declared.Seat.{Seat}
use Rattle.workload_plan.specs.Input.{worker_limit}
use Rattle.workload_plan.specs.Choices.{chosen}
use Rattle.workload_turns.specs.Turns.{idle, finished, turned}
use Rattle.workload_turns.specs.Holding.{Holding}

-- ---- the run

-- a store, and the seats of all workers
pub record Stage : Type 0 where
  pub store : Store
  pub seats : List Seat

-- the drawn worker's turn
unfoldable pub stepped : (writers : ℕ) → Choice → Stage → Stage
stepped writers c f =
    let t = turned writers c f.store (get_or f.seats c.worker idle) in
    record { store = t.store; seats = set f.seats c.worker t.seat }

-- n operations from a state of the generator
unfoldable pub operated : Plan → (n state : ℕ) → Stage → Stage
operated p zero state f = f
operated p (suc n) state f = let c = chosen p state in operated p n c.state (stepped p.writers c f)

-- a worker's transaction commits, if it has one
unfoldable pub left : Store → Seat → Store
left s w = cond (eqb w.turns 0) s (finished s w.start.0)

-- what is open commits, in worker order
unfoldable pub ended : List Seat → Store → Store
ended [] s = s
ended (w ∷ ws) s = ended ws (left s w)

-- all operations of a plan, from idle workers
unfoldable pub played : Plan → Store → Stage
played p s = operated p p.operations p.seed (record { store = s; seats = replicate worker_limit idle })

-- the workload on a store
unfoldable pub worked : Plan → Store → Store
worked p s = ended (played p s).seats (played p s).store

-- ---- on memories

-- whatever store the memories h and d held, as h' and d' they hold what a plan's operations make of it;
-- these answered the seats ws
abbrev pub Operates : Plan → (h d h' d' : Bytes) (ws : List Seat) → Type 0
Operates p h d h' d' ws =
    (h₀ d₀ : Bytes) (s : Store) → Holding h₀ d₀ h d s
    → Holding h₀ d₀ h' d' (played p s).store × (ws ≡ (played p s).seats)

-- ---- a run of the model's

-- calls lead from s to t
abbrev pub Reached : (s t : Store) → Type 0
Reached s t = (cs : List Call) × ((all_in_bytes cs ≡ true) × (t ≡ run s cs))

-- so what is proved of every run is true of the workload
abbrev pub IsRun : Type 0
IsRun = (p : Plan) (s : Store) → Reached s (worked p s)
