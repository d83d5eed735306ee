-- The workload on two memories that hold anything, and its dump into an output.
use Rattle.std.specs.Prelude.{ℕ, ◌≡◌, [], length, Option, None, Some, option_map}
use Rattle.model.specs.Bytes.{Bytes}
use Rattle.model.specs.State.{Store}
use Rattle.model.specs.Calls.{dump, ask, Answer, decide, answer}
use Rattle.model.specs.Runs.{Creation, make}
use Rattle.memory.specs.Spans.{overlay}
use Rattle.bridge.specs.Creations.{created_on}
use Rattle.answers.specs.Paper.{paper_dumped}
use Rattle.workload_plan.specs.declared.Plan.{Plan}
use Rattle.workload_plan.specs.declared.Input.{Input}
use Rattle.workload_plan.specs.declared.Input.TheVariants as input
use Rattle.workload_run.specs.declared.Worked.{Worked}
use Rattle.workload_run.specs.declared.Worked.TheVariants as work
use Rattle.workload_plan.specs.Input.{workers, plan_in}
use Rattle.workload_run.specs.Workload.{worked}
use Rattle.workload_turns.specs.Holding.{Holding}

-- the new store that the workload runs on, with a desk for each worker
abbrev pub rooms : Plan → Creation
rooms p = make p.key_rooms p.version_rooms (workers p)

-- what the workload leaves, if the memories h and d hold the rooms
abbrev pub ran_on : Plan → (h d : Bytes) → Option Store
ran_on p h d = option_map (worked p) (created_on h d (rooms p)).1

-- h and d became h' and d': as they were, or with that store in them
abbrev pub Left : (h d h' d' : Bytes) → Option Store → Type 0
Left h d h' d' None = (h' ≡ h) × (d' ≡ d)
Left h d h' d' (Some s) = Holding h d h' d' s

pub record Ran (p : Plan) (h d h' d' : Bytes) (a : Answer) : Type 0 where
  pub answer : a ≡ (created_on h d (rooms p)).0
  pub memories : Left h d h' d' (ran_on p h d)

-- ---- from the text to the dump

abbrev pub store_of : (h d : Bytes) → Input → Option Store
store_of h d (input.Plan p) = ran_on p h d
store_of h d input.Other = None

-- what the workload that a text says leaves; none if the text is other input
abbrev pub worked_on : (text h d : Bytes) → Option Store
worked_on text h d = store_of h d (plan_in text)

abbrev pub paper_worked : Worked → Option Answer
paper_worked (work.Ran r) = Some (paper_dumped r)
paper_worked work.Other = None

-- the dump of that store; none, if there is no room for it
abbrev pub dump_for : Option Store → (room : ℕ) → Bytes
dump_for None room = []
dump_for (Some s) room = (decide s (ask (dump room))).bytes

-- the workload in a text, run on memories h and d with its dump in the output `out`
pub record Works (text h d out h' d' out' : Bytes) (r : Worked) : Type 0 where
  pub answer : paper_worked r ≡ option_map (λ (s : Store). answer s (ask (dump (length out)))) (worked_on text h d)
  pub memories : Left h d h' d' (worked_on text h d)
  pub output : out' ≡ overlay (dump_for (worked_on text h d) (length out)) out
