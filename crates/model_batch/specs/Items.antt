-- The items of a batch, one for each call, and the bytes that say them.
use Rattle.std.specs.Prelude.{ℕ, zero, suc, Bool, true, false, List, [], ◌∷◌}
use Rattle.model.specs.Calls.{Act, read, put, delete, commit_to, abort, Call, begin, on, sweep, Answer, refused, conflict, faulty, began, found, done, committed, closed, swept, thinned, counted, dumped, replayed}

-- the most items of a batch
abbrev pub max_items : ℕ
max_items = 4096

-- bytes of a place
abbrev pub place_width : ℕ
place_width = 2

-- a transaction, by its start or by the place of its begin in the batch, from 0
pub data Who : Type 0 where
  started : (start : ℕ) → Who
  placed : (place : ℕ) → Who

pub data Item : Type 0 where
  begins : Item
  acts : Who → Act → Item
  sweeps : (limit : ℕ) → Item

-- ---- the single calls

-- the start that a begin answered; zero, which no transaction has, if it was refused
unfoldable pub start_of : Answer → ℕ
start_of (refused n) = 0
start_of (conflict cs) = 0
start_of (faulty n at) = 0
start_of (began t d) = t
start_of (found k) = 0
start_of done = 0
start_of (committed n) = 0
start_of closed = 0
start_of (swept c d) = 0
start_of (thinned d) = 0
start_of (counted k v d) = 0
start_of (dumped n) = 0
start_of (replayed n) = 0

-- the start that the answer at place p gives
unfoldable pub start_at : List Answer → (p : ℕ) → ℕ
start_at [] p = 0
start_at (a ∷ l) zero = start_of a
start_at (a ∷ l) (suc p) = start_at l p

-- whose call it is, by the answers before
unfoldable pub resolve : (before : List Answer) → Who → ℕ
resolve l (started t) = t
resolve l (placed p) = start_at l p

unfoldable pub call_of : (before : List Answer) → Item → Call
call_of l begins = begin
call_of l (acts w a) = on (resolve l w) a
call_of l (sweeps n) = sweep n

-- ---- in bytes

-- each item's mark is this byte and its kind
abbrev pub marker : ℕ
marker = 0x4C

unfoldable pub act_kind : Act → ℕ
act_kind (read k) = 17
act_kind (put k v) = 18
act_kind (delete k) = 19
act_kind (commit_to j) = 20
act_kind abort = 21

unfoldable pub item_kind : Item → ℕ
item_kind begins = 16
item_kind (acts w a) = act_kind a
item_kind (sweeps l) = 22

-- ---- which items a batch may have

unfoldable pub is_begin : Item → Bool
is_begin begins = true
is_begin (acts w a) = false
is_begin (sweeps l) = false

-- the item at place p is a begin
unfoldable pub begins_at : List Item → (p : ℕ) → Bool
begins_at [] p = false
begins_at (i ∷ is) zero = is_begin i
begins_at (i ∷ is) (suc p) = begins_at is p
