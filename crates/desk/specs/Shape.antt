-- Desk memory as inner functions ask for it, and the desk of a start.
use Rattle.std.specs.Prelude.{ℕ, suc, ◌+◌, ◌^◌, ◌%◌, ◌≤◌, ◌<◌, ◌≡◌, Bool, false, cond, List, [], ◌∷◌, length, get_or, eqb, Option, None, Some, option_map}
use Rattle.model.specs.Sizes.{max_key, max_desks, max_writes, number_width}
use Rattle.model.specs.Bytes.{Bytes}
use Rattle.model.specs.State.{Write, Writes, Transaction, Desk, free, taken}
use Rattle.memory.specs.Rows.{Each}
use Rattle.cells.specs.Cells.{key_width, Short}
use Rattle.desk.specs.Layout.{write_place, needed, desks_in, put_desks}

-- ---- what desk memory has room for

abbrev pub RoomForWrite : Write → Type 0
RoomForWrite w = (length w.key ≤ max_key) × Short w.payload

abbrev pub RoomForWrites : Writes → Type 0
RoomForWrites ws = Each RoomForWrite ws

abbrev pub WritesFit : Desk → Type 0
WritesFit free = Unit {0}
WritesFit (taken x) = (length x.writes ≤ max_writes) × RoomForWrites x.writes

abbrev pub RoomForDesk : Desk → Type 0
RoomForDesk free = Unit {0}
RoomForDesk (taken x) = (x.start < 256 ^ number_width) × WritesFit (taken x)

pub record RoomFor (ds : List Desk) : Type 0 where
  pub count : length ds ≤ max_desks
  pub each : Each RoomForDesk ds

-- desk memory of which only the form is known: it is long enough, and its bytes are the ones that its desks have
pub record Shaped (m : Bytes) : Type 0 where
  pub long : needed (length (desks_in m)) ≤ length m
  pub room : RoomFor (desks_in m)
  pub same : m ≡ put_desks m (desks_in m)

-- ---- one desk

-- where the payload of write i of desk d stands
abbrev pub payload_place : (d i : ℕ) → ℕ
payload_place d i = write_place d i + key_width

abbrev pub desk_in : Bytes → ℕ → Desk
desk_in m d = get_or (desks_in m) d free

abbrev pub start_of : Desk → ℕ
start_of free = 0
start_of (taken x) = x.start

abbrev pub own_writes : Desk → Writes
own_writes free = []
own_writes (taken x) = x.writes

-- the bit of a desk
abbrev pub bit : Desk → ℕ
bit free = 0
bit (taken x) = 1

-- m has desk d, whose bit is the lowest of b
pub record BitIn (m : Bytes) (b d : ℕ) : Type 0 where
  pub shaped : Shaped m
  pub below : d < length (desks_in m)
  pub low : b % 2 ≡ bit (desk_in m d)

abbrev pub IsTaken : Desk → Type 0
IsTaken free = ⊥
IsTaken (taken x) = Unit {0}

-- a taken desk becomes what f makes of its transaction
abbrev pub reseat : (Transaction → Desk) → Desk → Desk
reseat f free = free
reseat f (taken x) = f x

-- the desk has start t
abbrev pub is_at : ℕ → Desk → Bool
is_at t free = false
is_at t (taken x) = eqb t x.start

-- the first open desk with start t
unfoldable pub desk_of : ℕ → List Desk → Option ℕ
desk_of t [] = None
desk_of t (free ∷ ds) = option_map suc (desk_of t ds)
desk_of t (taken x ∷ ds) = cond (eqb t x.start) (Some 0) (option_map suc (desk_of t ds))
