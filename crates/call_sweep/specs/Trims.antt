-- What both sweeps do to hall memory.
use Rattle.std.specs.Prelude.{ℕ, ◌≤◌, max, ◌≡◌, List}
use Rattle.model.specs.Bytes.{Bytes}
use Rattle.model.specs.State.{Hall, with_entries, with_floor}
use Rattle.model.specs.Sweeps.{goes, trim_all}
use Rattle.model.specs.Calls.{drops}
use Rattle.hall.specs.Layout.{hall_in, put_hall, Sound}
use Rattle.hall_rule.specs.Readers.{Readers}

-- the hall in h can be swept up to c, sparing the readers ts; up to k all is clear
pub record Trimmable (h : Bytes) (c k : ℕ) (ts : List ℕ) : Type 0 where
  pub hall : Sound h
  pub low : c ≤ (hall_in h).counter
  pub readers : Readers c k ts

-- a hall swept up to c, sparing the readers ts
abbrev pub trimmed : (c : ℕ) → (readers : List ℕ) → Hall → Hall
trimmed c ts g = with_floor (with_entries g g.counter (trim_all (goes c ts) g.entries)) (max g.floor c)

-- h' is the memory h with that done, and r versions were dropped
pub record Trims (h : Bytes) (c : ℕ) (ts : List ℕ) (h' : Bytes) (r : ℕ) : Type 0 where
  pub count : r ≡ drops (goes c ts) (hall_in h).entries
  pub hall : h' ≡ put_hall h (trimmed c ts (hall_in h))
