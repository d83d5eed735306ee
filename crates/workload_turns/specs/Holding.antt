-- A store in two memories, and what a step makes of it.
use Rattle.std.specs.Prelude.{◌≡◌}
use Rattle.model.specs.Bytes.{Bytes}
use Rattle.model.specs.State.{Store}
use Rattle.hall.specs.Layout.{put_hall}
use Rattle.desk.specs.Layout.{put_desks}
use Rattle.store.specs.Runs.{Hold}
use Rattle.workload_turns.specs.declared.Seat.{Seat}
use Rattle.workload_turns.specs.Turns.{Scene}

-- the memories h and d are h₀ and d₀ with the store s put into them
pub record Holding (h₀ d₀ h d : Bytes) (s : Store) : Type 0 where
  pub holds : Hold (record { hall = h; desk = d }) s
  pub hall : h ≡ put_hall h₀ s.hall
  pub desk : d ≡ put_desks d₀ s.desks

-- whatever store the memories h and d held, as h' and d' they hold f of it
abbrev pub Does : (f : Store → Store) (h d h' d' : Bytes) → Type 0
Does f h d h' d' = (h₀ d₀ : Bytes) (s : Store) → Holding h₀ d₀ h d s → Holding h₀ d₀ h' d' (f s)

-- the same of a worker's step, which answered the seat w
abbrev pub Plays : (f : Store → Scene) (h d h' d' : Bytes) (w : Seat) → Type 0
Plays f h d h' d' w =
    (h₀ d₀ : Bytes) (s : Store) → Holding h₀ d₀ h d s → Holding h₀ d₀ h' d' (f s).store × (w ≡ (f s).seat)
