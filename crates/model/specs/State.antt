-- What the store holds, and how what it holds is looked up and changed.
use Rattle.std.specs.Prelude.{ℕ, suc, ◌+◌, min, Bool, true, false, cond, List, [], ◌∷◌, ◌++◌, map, length, replicate, leb, eqb, Option, None, Some, unwrap_or, option_map}
use Rattle.model.specs.Bytes.{Bytes, order, pick}

-- ---- the state

-- what a version or a write says of its key; an empty value is no deletion
pub data Payload : Type 0 where
  deletion : Payload
  content : Bytes → Payload

pub record Version : Type 0 where
  pub number : ℕ
  pub payload : Payload

-- a key's versions, oldest first
abbrev pub Chain : Type 0
Chain = List Version

pub record Entry : Type 0 where
  pub key : Bytes
  pub chain : Chain

-- the map can be read as it stood at any number from the floor to the counter
pub record Hall : Type 0 where
  pub key_rooms : ℕ
  pub version_rooms : ℕ
  pub desk_count : ℕ
  pub counter : ℕ
  pub floor : ℕ
  pub entries : List Entry

pub record Write : Type 0 where
  pub key : Bytes
  pub payload : Payload

abbrev pub Writes : Type 0
Writes = List Write

-- what an open transaction has at its desk
pub record Transaction : Type 0 where
  pub start : ℕ
  pub writes : Writes

pub data Desk : Type 0 where
  free : Desk
  taken : Transaction → Desk

pub record Store : Type 0 where
  pub hall : Hall
  pub desks : List Desk

-- ---- what may be missing

abbrev pub or_else : {A : Type 0} → Option A → Option A → Option A
or_else None b = b
or_else (Some a) b = Some a

abbrev pub given : {A : Type 0} → Bool → A → Option A
given true a = Some a
given false a = None

abbrev pub is_some : {A : Type 0} → Option A → Bool
is_some None = false
is_some (Some a) = true

abbrev pub or_empty : {A : Type 0} → Option (List A) → List A
or_empty o = unwrap_or o []

-- ---- the hall

-- the versions of key k; for entries whose keys ascend
unfoldable pub look : Bytes → List Entry → Chain
look k [] = []
look k (e ∷ es) = pick (order k e.key) [] e.chain (look k es)

-- the last version numbered at most t, which is the newest where numbers ascend
unfoldable pub visible : ℕ → Chain → Option Version
visible t [] = None
visible t (v ∷ vs) = or_else (visible t vs) (given (leb v.number t) v)

-- the key's last version
unfoldable pub newest_of : Chain → Option Version
newest_of [] = None
newest_of (v ∷ vs) = or_else (newest_of vs) (Some v)

-- the value that a version holds, if it is no deletion
abbrev pub content_of : Payload → Option Bytes
content_of deletion = None
content_of (content b) = Some b

abbrev pub is_deletion : Payload → Bool
is_deletion deletion = true
is_deletion (content b) = false

abbrev pub value_of : Option Version → Option Bytes
value_of None = None
value_of (Some v) = content_of v.payload

unfoldable pub version_count : List Entry → ℕ
version_count [] = 0
version_count (e ∷ es) = length e.chain + version_count es

-- a version at the end of key k's chain, or of a new key; keys that ascend do so afterwards
unfoldable pub add : Bytes → Version → List Entry → List Entry
add k v [] = record { key = k; chain = v ∷ [] } ∷ []
add k v (e ∷ es) =
    pick (order k e.key)
    (record { key = k; chain = v ∷ [] } ∷ e ∷ es)
    (record { key = e.key; chain = e.chain ++ v ∷ [] } ∷ es)
    (e ∷ add k v es)

-- each write becomes a version numbered n
unfoldable pub publish : ℕ → Writes → List Entry → List Entry
publish n [] es = es
publish n (w ∷ ws) es = publish n ws (add w.key (record { number = n; payload = w.payload }) es)

-- ---- the desks

-- the write of key k; for writes whose keys ascend
unfoldable pub find : Bytes → Writes → Option Payload
find k [] = None
find k (w ∷ ws) = pick (order k w.key) None (Some w.payload) (find k ws)

abbrev pub written_keys : Writes → List Bytes
written_keys ws = map (λ (w : Write). w.key) ws

-- a write of key k, in place of an earlier one of that key; keys that ascend do so afterwards
unfoldable pub put_write : Bytes → Payload → Writes → Writes
put_write k p [] = record { key = k; payload = p } ∷ []
put_write k p (w ∷ ws) =
    pick (order k w.key)
    (record { key = k; payload = p } ∷ w ∷ ws)
    (record { key = k; payload = p } ∷ ws)
    (w ∷ put_write k p ws)

-- the writes of the open transaction with start t; starts of open desks differ
unfoldable pub writes_of : ℕ → List Desk → Option Writes
writes_of t [] = None
writes_of t (free ∷ ds) = writes_of t ds
writes_of t (taken x ∷ ds) = cond (eqb t x.start) (Some x.writes) (writes_of t ds)

-- the lowest free desk
unfoldable pub free_desk : List Desk → Option ℕ
free_desk [] = None
free_desk (free ∷ ds) = Some 0
free_desk (taken x ∷ ds) = option_map suc (free_desk ds)

unfoldable pub open_desks : List Desk → ℕ
open_desks [] = 0
open_desks (free ∷ ds) = open_desks ds
open_desks (taken x ∷ ds) = suc (open_desks ds)

-- the open starts, in the order of their desks
unfoldable pub open_starts : List Desk → List ℕ
open_starts [] = []
open_starts (free ∷ ds) = open_starts ds
open_starts (taken x ∷ ds) = x.start ∷ open_starts ds

-- the smallest of m and every open start
unfoldable pub cutoff : ℕ → List Desk → ℕ
cutoff m [] = m
cutoff m (free ∷ ds) = cutoff m ds
cutoff m (taken x ∷ ds) = min x.start (cutoff m ds)

-- a transaction that has written nothing
abbrev pub begun : (start : ℕ) → Transaction
begun t = record { start = t; writes = [] }

-- the lowest free desk taken for start t
unfoldable pub seat : ℕ → List Desk → List Desk
seat t [] = []
seat t (free ∷ ds) = taken (begun t) ∷ ds
seat t (taken x ∷ ds) = taken x ∷ seat t ds

-- the desk with start t becomes what f makes of its transaction
unfoldable pub redesk : ℕ → (Transaction → Desk) → List Desk → List Desk
redesk t f [] = []
redesk t f (free ∷ ds) = free ∷ redesk t f ds
redesk t f (taken x ∷ ds) = cond (eqb t x.start) (f x) (taken x) ∷ redesk t f ds

abbrev pub vacated : Transaction → Desk
vacated x = free

-- the same transaction with other writes
abbrev pub holding : Writes → Transaction → Transaction
holding ws x = record { start = x.start; writes = ws }

abbrev pub rewriting : (Writes → Writes) → Transaction → Desk
rewriting f x = taken (holding (f x.writes) x)

-- ---- new states

-- a hall of the same sizes and floor
abbrev pub with_entries : Hall → (counter : ℕ) → List Entry → Hall
with_entries h n es =
    record {
      key_rooms = h.key_rooms;
      version_rooms = h.version_rooms;
      desk_count = h.desk_count;
      counter = n;
      floor = h.floor;
      entries = es;
    }

-- the same hall with another floor
abbrev pub with_floor : Hall → (floor : ℕ) → Hall
with_floor h f = record {
  key_rooms = h.key_rooms;
  version_rooms = h.version_rooms;
  desk_count = h.desk_count;
  counter = h.counter;
  floor = f;
  entries = h.entries;
}

abbrev pub new_hall : (key_rooms version_rooms desks : ℕ) → Hall
new_hall ks vs ds =
    record { key_rooms = ks; version_rooms = vs; desk_count = ds; counter = 0; floor = 0; entries = [] }

-- a hall with all its desks free
unfoldable pub vacant : Hall → Store
vacant h = record { hall = h; desks = replicate h.desk_count free }
