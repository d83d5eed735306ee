-- Runs of public calls on two memories that nobody else writes.
use Rattle.std.specs.Prelude.{ℕ, suc, ◌≡◌, true, false, List, [], ◌∷◌, Some}
use Rattle.model.specs.Bytes.{Bytes}
use Rattle.model.specs.State.{Store}
use Rattle.model.specs.Calls.{Act, read, Question, Call, on, ask, replay, refused, done, refusal, stays, answering}
use Rattle.model.specs.Runs.{Creation, run}
use Rattle.model.specs.History.{all_in_bytes, creates_in_bytes, is_commit, is_sweep}
use Rattle.bridge.specs.Store.{store_in, asks_desks, is_sound_for, outcome_on, hall_after, desk_after, Sound, Memories, after_call}
use Rattle.bridge.specs.Creations.{created_on, with_hall, with_desks}

-- the memories that a creation leaves
abbrev pub create_on : Memories → Creation → Memories
create_on m o =
    record {
      hall = with_hall m.hall (created_on m.hall m.desk o).1;
      desk = with_desks m.desk (created_on m.hall m.desk o).1;
    }

-- what may be asked of two memories: a call, or a make or load
pub data Step : Type 0 where
  call : Call → Step
  create : Creation → Step

-- the memories after the steps
unfoldable pub steps_on : Memories → List Step → Memories
steps_on m [] = m
steps_on m (call c ∷ xs) = steps_on (after_call m c) xs
steps_on m (create o ∷ xs) = steps_on (create_on m o) xs

unfoldable pub calls_of : List Step → List Call
calls_of [] = []
calls_of (call c ∷ xs) = c ∷ calls_of xs
calls_of (create o ∷ xs) = calls_of xs

-- each make and load among the steps is refused, at its moment
unfoldable pub AllRefused : Memories → List Step → Type 0
AllRefused m [] = Unit {0}
AllRefused m (call c ∷ xs) = AllRefused (after_call m c) xs
AllRefused m (create o ∷ xs) =
    ((n : ℕ) × (refusal (created_on m.hall m.desk o).0 ≡ suc n)) × AllRefused (create_on m o) xs

-- steps that belong to one run: an accepted make or load would begin another
pub record Steps (m : Memories) (xs : List Step) : Type 0 where
  pub calls : all_in_bytes (calls_of xs) ≡ true
  pub refused : AllRefused m xs

-- two sound memories that say the store s
pub record Hold (m : Memories) (s : Store) : Type 0 where
  pub sound : Sound m.hall m.desk
  pub store : store_in m.hall m.desk ≡ s

-- an accepted make or load leaves memories that hold the model's store
abbrev pub CreationHolds : Type 0
CreationHolds =
    (m : Memories) (o : Creation) (s : Store) → creates_in_bytes o ≡ true
    → created_on m.hall m.desk o ≡ (done, Some s) → Hold (create_on m o) s

-- and any steps on memories that hold a store leave memories that hold what the model's run of the calls among them
-- gives: a make or load that is refused leaves the run
abbrev pub StepsHold : Type 0
StepsHold =
    (m : Memories) (s : Store) (xs : List Step) → Steps m xs → Hold m s → Hold (steps_on m xs) (run s (calls_of xs))

-- memory that is not sound is refused by every call, and not a byte changes
abbrev pub UnsoundRefused : Type 0
UnsoundRefused =
    (h d : Bytes) (c : Call) → is_sound_for c h d ≡ false
    → (outcome_on h d c ≡ answering (refused 1) stays) × (hall_after h d c ≡ h) × (desk_after h d c ≡ d)

-- what a public call is lent only to look at, or to work in, stays as it was, whatever the memories hold
pub record Lent (h d : Bytes) : Type 0 where
  -- read, put, delete and abort look at hall memory
  pub acts : (t : ℕ) (a : Act) → is_commit a ≡ false → hall_after h d (on t a) ≡ h
  -- read looks at desk memory too
  pub reads : (t : ℕ) (k : Bytes) → desk_after h d (on t (read k)) ≡ d
  -- sweep and thin look at desk memory
  pub sweeps : (c : Call) → is_sweep c ≡ true → desk_after h d c ≡ d
  -- replay works at a desk, and leaves desk memory as it was
  pub replays : (x : Bytes) → desk_after h d (replay x) ≡ d
  -- newest, as_of, counts and dump write neither
  pub asks : (q : Question) → (hall_after h d (ask q) ≡ h) × (desk_after h d (ask q) ≡ d)
  -- newest, as_of and dump are lent hall memory alone: any desk memory will do, the contracts' [] as well
  pub alone : (q : Question) → asks_desks q ≡ false → (e : Bytes) → outcome_on h d (ask q) ≡ outcome_on h e (ask q)
