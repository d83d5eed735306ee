-- A state has one image in bytes, and what stands past the bytes it needs is the caller's.
use Rattle.std.specs.Prelude.{ℕ, ◌≤◌, ◌≡◌, true, false, List, ◌++◌, length, take, drop}
use Rattle.model.specs.Bytes.{Bytes}
use Rattle.model.specs.State.{Hall, Desk}
use Rattle.model.specs.Sound.{sound_hall, sound_desks}
use Rattle.model.specs.Calls.{Call}
use Rattle.model.specs.Runs.{Creation, sizes_of}
use Rattle.model.specs.History.{in_bytes, creates_in_bytes}
use Rattle.memory.specs.Spans.{zeros}
use Rattle.hall.specs.Layout as hall
use Rattle.hall.specs.Layout.{hall_in, put_hall, allowed}
use Rattle.desk.specs.Layout as desk
use Rattle.desk.specs.Layout.{desks_in, put_desks}
use Rattle.bridge.specs.Store.{hall_after, desk_after, Memories}
use Rattle.store.specs.Runs.{create_on}

-- the bytes that the hall in memory m needs
abbrev pub hall_needs : Bytes → ℕ
hall_needs m = hall.needed (hall_in m).key_rooms (hall_in m).version_rooms

-- ---- hall memory

-- a sound hall, put into a memory that is long enough, makes it sound and is read back
abbrev pub HallPut : Type 0
HallPut =
    (m : Bytes) (h : Hall) → sound_hall h ≡ true → hall.needed h.key_rooms h.version_rooms ≤ length m
    → hall.Sound (put_hall m h) × (hall_in (put_hall m h) ≡ h)

-- the same hall has the same bytes
abbrev pub HallImage : Type 0
HallImage =
    (a b : Bytes) → hall.Sound a → hall.Sound b → hall_in a ≡ hall_in b → drop (hall_needs a) a ≡ drop (hall_needs a) b
    → a ≡ b

-- and says the same hall whatever stands past them
abbrev pub HallPast : Type 0
HallPast =
    (m x : Bytes) → hall.Sound m
    → hall.Sound (take (hall_needs m) m ++ x) × (hall_in (take (hall_needs m) m ++ x) ≡ hall_in m)

-- bytes past them stay (docs/RULES.md, 2.3): a call leaves them, whatever the memories hold, and so does a make or load
-- of these sizes
abbrev pub HallPastKept : Type 0
HallPastKept =
    (h d : Bytes) (c : Call) → in_bytes c ≡ true → drop (hall_needs h) (hall_after h d c) ≡ drop (hall_needs h) h

abbrev pub HallPastCreated : Type 0
HallPastCreated =
    (m : Memories) (o : Creation) → creates_in_bytes o ≡ true
    → drop (hall.needed (sizes_of o).0 (sizes_of o).1) (create_on m o).hall
    ≡ drop (hall.needed (sizes_of o).0 (sizes_of o).1) m.hall

-- a memory of zeros is nobody's store
abbrev pub ZerosUnsound : Type 0
ZerosUnsound = (n : ℕ) → hall.is_sound (zeros n) ≡ false

-- no more than docs/RULES.md, 2.2 allows
abbrev pub HallSmall : Type 0
HallSmall = (key_rooms version_rooms : ℕ) → hall.needed key_rooms version_rooms ≤ allowed key_rooms version_rooms

-- ---- desk memory, beside the sound hall h

-- the bytes that the desks in memory m need
abbrev pub desk_needs : Bytes → ℕ
desk_needs m = desk.needed (length (desks_in m))

abbrev pub DeskPut : Type 0
DeskPut =
    (h : Hall) (m : Bytes) (ds : List Desk) → sound_hall h ≡ true → sound_desks h ds ≡ true
    → desk.needed (length ds) ≤ length m → desk.Sound h (put_desks m ds) × (desks_in (put_desks m ds) ≡ ds)

abbrev pub DeskImage : Type 0
DeskImage =
    (h k : Hall) (a b : Bytes) → desk.Sound h a → desk.Sound k b → desks_in a ≡ desks_in b
    → drop (desk_needs a) a ≡ drop (desk_needs b) b → a ≡ b

abbrev pub DeskPast : Type 0
DeskPast =
    (h : Hall) (m x : Bytes) → desk.Sound h m
    → desk.Sound h (take (desk_needs m) m ++ x) × (desks_in (take (desk_needs m) m ++ x) ≡ desks_in m)

abbrev pub DeskPastKept : Type 0
DeskPastKept =
    (h d : Bytes) (c : Call) → in_bytes c ≡ true → drop (desk_needs d) (desk_after h d c) ≡ drop (desk_needs d) d

abbrev pub DeskPastCreated : Type 0
DeskPastCreated =
    (m : Memories) (o : Creation) → creates_in_bytes o ≡ true
    → drop (desk.needed (sizes_of o).2) (create_on m o).desk ≡ drop (desk.needed (sizes_of o).2) m.desk

abbrev pub DeskZeros : Type 0
DeskZeros = (h : Hall) (n : ℕ) → sound_hall h ≡ true → desk.is_sound h (zeros n) ≡ false

-- no more than docs/RULES.md, 2.2 allows
abbrev pub DeskSmall : Type 0
DeskSmall = (desks : ℕ) → 1 ≤ desks → desk.needed desks ≤ desk.allowed desks
