-- The calls: what each answers, which bytes it hands back, and what it changes (docs/RULES.md, 4 and 5).
use Rattle.std.specs.Prelude.{ℕ, zero, suc, ◌-◌, min, max, Bool, false, not, ◌&&◌, cond, length, leb, ltb, eqb, Option, None, Some, option_map, unwrap_or, option_to_list}
use mathlib.Core.List.{List, [], ◌∷◌, ◌++◌}
use Rattle.model.specs.Sizes.{max_writes, last_number}
use Rattle.model.specs.Bytes.{Bytes}
use Rattle.model.specs.State.{Payload, deletion, content, Version, Entry, Hall, Writes, Desk, Store, given, is_some, or_empty, look, visible, newest_of, content_of, value_of, version_count, publish, find, written_keys, put_write, writes_of, free_desk, open_desks, open_starts, cutoff, seat, redesk, vacated, rewriting, with_entries, with_floor}
use Rattle.model.specs.Sweeps.{Rule, goes, trim_all}
use Rattle.model.specs.Sound.{within, key_fits, value_fits}
use Rattle.model.specs.Dump.{dump_hall}
use Rattle.model.specs.Load.{Parsed, got, bad, fault}
use Rattle.model.specs.Journal.{Commit, with_commit, with_commits, dump_commit, read_commit}

-- ---- calls, answers, effects

-- what is done under a start; a commit that is to write its record has the length of the output for it
pub data Act : Type 0 where
  read : (key : Bytes) → Act
  put : (key val : Bytes) → Act
  delete : (key : Bytes) → Act
  commit_to : (journal : Option ℕ) → Act
  abort : Act

abbrev pub commit : Act
commit = commit_to None

-- what is asked outside a transaction; a dump is asked with the length of its output
pub data Question : Type 0 where
  newest : (key : Bytes) → Question
  as_of : (number : ℕ) → (key : Bytes) → Question
  counts : Question
  dump : (room : ℕ) → Question

pub data Call : Type 0 where
  begin : Call
  on : (start : ℕ) → Act → Call
  ask : Question → Call
  sweep : (limit : ℕ) → Call
  thin : (limit : ℕ) → Call
  replay : (journal : Bytes) → Call

pub data Kind : Type 0 where
  own_value : Kind
  hall_value : Kind
  nothing_there : Kind

-- keys, each with its newest number
abbrev pub Clashes : Type 0
Clashes = List (Bytes × ℕ)

pub data Answer : Type 0 where
  refused : (number : ℕ) → Answer
  conflict : Clashes → Answer
  faulty : (number offset : ℕ) → Answer
  began : (start desk : ℕ) → Answer
  found : Kind → Answer
  done : Answer
  committed : (number : ℕ) → Answer
  closed : Answer
  swept : (cutoff dropped : ℕ) → Answer
  thinned : (dropped : ℕ) → Answer
  counted : (keys versions desks : ℕ) → Answer
  dumped : (length : ℕ) → Answer
  replayed : (end : ℕ) → Answer

-- the refusal's number, zero if nothing is refused
unfoldable pub refusal : Answer → ℕ
refusal (refused n) = n
refusal (conflict cs) = 9
refusal (faulty n at) = n
refusal (began t d) = 0
refusal (found k) = 0
refusal done = 0
refusal (committed n) = 0
refusal closed = 0
refusal (swept c d) = 0
refusal (thinned d) = 0
refusal (counted k v d) = 0
refusal (dumped n) = 0
refusal (replayed n) = 0

-- the clashing keys that an answer lists
unfoldable pub clashes_of : Answer → Clashes
clashes_of (refused n) = []
clashes_of (conflict cs) = cs
clashes_of (faulty n at) = []
clashes_of (began t d) = []
clashes_of (found k) = []
clashes_of done = []
clashes_of (committed n) = []
clashes_of closed = []
clashes_of (swept c d) = []
clashes_of (thinned d) = []
clashes_of (counted k v d) = []
clashes_of (dumped n) = []
clashes_of (replayed n) = []

-- what a call changes
pub data Effect : Type 0 where
  stays : Effect
  opens : (start : ℕ) → Effect
  writes : (start : ℕ) → Bytes → Payload → Effect
  closes : (start : ℕ) → Effect
  publishes : (start number : ℕ) → Writes → Effect
  trims : (up_to : ℕ) → Rule → Effect
  replays : List Commit → Effect

-- the bytes are the value that a read, newest or as_of hands back, the dump, or the record of a commit
pub record Outcome : Type 0 where
  pub answer : Answer
  pub bytes : Bytes
  pub effect : Effect

abbrev pub answering : Answer → Effect → Outcome
answering a e = record { answer = a; bytes = []; effect = e }

abbrev pub returning : Answer → Bytes → Outcome
returning a b = record { answer = a; bytes = b; effect = stays }

-- the refusals of a call, in order: the first test that holds answers its number, and nothing changes
abbrev pub Checks : Type 0
Checks = List (Bool × ℕ)

unfoldable pub check : Checks → Outcome → Outcome
check [] o = o
check (c ∷ cs) o = cond c.0 (answering (refused c.1) stays) (check cs o)

-- ---- reading

-- a value of that kind, or nothing there
abbrev pub finding : Kind → Option Bytes → Outcome
finding k None = returning (found nothing_there) []
finding k (Some b) = returning (found k) b

-- own write first, else what the hall shows
unfoldable pub read_outcome : (own : Option Payload) → (seen : Option Bytes) → Outcome
read_outcome None seen = finding hall_value seen
read_outcome (Some p) seen = finding own_value (content_of p)

-- ---- committing

-- the number of a version that is above t
unfoldable pub above : ℕ → Option Version → Option ℕ
above t None = None
above t (Some v) = given (ltb t v.number) v.number

-- those of the keys ks that have a version above the start, each with its newest number (docs/RULES.md, 4.9); for keys
-- that ascend, and chains whose numbers do
unfoldable pub clashes : (start : ℕ) → (ks : List Bytes) → Hall → Clashes
clashes t [] h = []
clashes t (k ∷ ks) h =
    option_to_list (option_map (λ n. (k, n)) (above t (newest_of (look k h.entries)))) ++ clashes t ks h

-- the new keys among the writes: those of which no version is held
unfoldable pub new_keys : Writes → List Entry → ℕ
new_keys [] es = 0
new_keys (w ∷ ws) es = cond (is_some (newest_of (look w.key es))) (new_keys ws es) (suc (new_keys ws es))

unfoldable pub is_spent : Hall → Bool
is_spent h = leb last_number h.counter

-- too few key rooms, too few version rooms
abbrev pub rooms : Hall → Writes → Checks
rooms h ws =
    (ltb (h.key_rooms - length h.entries) (new_keys ws h.entries), 10)
    ∷ (ltb (h.version_rooms - version_count h.entries) (length ws), 11) ∷ []

unfoldable pub room_checks : Hall → Writes → Checks
room_checks h ws = (is_spent h, 8) ∷ rooms h ws

-- the record that a commit writes, and whether its output is too short for it
abbrev pub record_of : (journal : Option ℕ) → Commit → Bytes
record_of None c = []
record_of (Some room) c = dump_commit c

abbrev pub is_short : (journal : Option ℕ) → Commit → Bool
is_short None c = false
is_short (Some room) c = ltb room (length (dump_commit c))

-- what the transaction with start t publishes as the commit c
abbrev pub commit_as : (journal : Option ℕ) → (start : ℕ) → Commit → Outcome
commit_as j t c =
    check ((is_short j c, 12) ∷ [])
    (record { answer = committed c.number; bytes = record_of j c; effect = publishes t c.number c.writes })

-- the commit of writes ws that clash at cs
unfoldable pub settle : Hall → (journal : Option ℕ) → (start : ℕ) → (ws : Writes) → (cs : Clashes) → Outcome
settle h j t [] cs = answering closed (closes t)
settle h j t (w ∷ ws) (c ∷ cs) = answering (conflict (c ∷ cs)) (closes t)
settle h j t (w ∷ ws) [] =
    check (room_checks h (w ∷ ws)) (commit_as j t (record { number = suc h.counter; writes = w ∷ ws }))

-- ---- replaying

-- where a replay stopped, and the commits before
pub record Replay : Type 0 where
  pub answer : Answer
  pub commits : List Commit

-- a record that is cut off is no fault
abbrev pub stops : (number at : ℕ) → Answer
stops n at = cond (eqb n 13) (replayed at) (faulty n at)

unfoldable pub go_on : Parsed Commit → (Commit → (at : ℕ) → Bytes → Replay) → Replay
go_on (bad n at) f = record { answer = stops n at; commits = [] }
go_on (got c at r) f = record { answer = (f c at r).answer; commits = c ∷ (f c at r).commits }

-- the records of x one after the other, at most `most`
unfoldable pub replay_up_to : (most : ℕ) → Hall → (at : ℕ) → Bytes → Replay
replay_up_to zero h at x = record { answer = replayed at; commits = [] }
replay_up_to (suc n) h at x =
    go_on (read_commit h.counter (λ c. fault (rooms h c.writes)) at x) (λ c. replay_up_to n (with_commit h c))

-- every record has a byte
unfoldable pub replay_of : Hall → (at : ℕ) → Bytes → Replay
replay_of h at x = replay_up_to (length x) h at x

-- ---- what each call does

-- the transaction writes sixteen keys, and this is none of them
unfoldable pub is_too_many : Bytes → Writes → Bool
is_too_many k ws = not (is_some (find k ws)) && leb max_writes (length ws)

-- under start t, where o are the writes of the open transaction with that start
unfoldable pub act : Hall → (start : ℕ) → Act → (o : Option Writes) → Outcome
act h t (read k) o =
    check ((not (key_fits k), 3) ∷ (not (is_some o), 5) ∷ [])
    (read_outcome (find k (or_empty o)) (value_of (visible t (look k h.entries))))
act h t (put k v) o =
    check
    ((not (key_fits k), 3) ∷ (not (value_fits v), 4) ∷ (not (is_some o), 5) ∷ (is_too_many k (or_empty o), 7) ∷ [])
    (answering done (writes t k (content v)))
act h t (delete k) o =
    check ((not (key_fits k), 3) ∷ (not (is_some o), 5) ∷ (is_too_many k (or_empty o), 7) ∷ [])
    (answering done (writes t k deletion))
act h t (commit_to j) o =
    check ((not (is_some o), 5) ∷ []) (settle h j t (or_empty o) (clashes t (written_keys (or_empty o)) h))
act h t abort o = check ((not (is_some o), 5) ∷ []) (answering done (closes t))

unfoldable pub reply : Store → Question → Outcome
reply s (newest k) =
    check ((not (key_fits k), 3) ∷ []) (read_outcome None (value_of (newest_of (look k s.hall.entries))))
reply s (as_of n k) =
    check ((not (key_fits k), 3) ∷ (not (within s.hall.floor s.hall.counter n), 16) ∷ [])
    (read_outcome None (value_of (visible n (look k s.hall.entries))))
reply s counts =
    answering (counted (length s.hall.entries) (version_count s.hall.entries) (open_desks s.desks)) stays
reply s (dump room) =
    check ((ltb room (length (dump_hall s.hall)), 12) ∷ [])
    (returning (dumped (length (dump_hall s.hall))) (dump_hall s.hall))

-- how many versions go by a rule
unfoldable pub drops : Rule → List Entry → ℕ
drops g es = version_count es - version_count (trim_all g es)

-- the sweep at cutoff c, below which nobody reads
unfoldable pub sweep_at : (c : ℕ) → List Entry → Outcome
sweep_at c es = answering (swept c (drops (goes c []) es)) (trims c (goes c []))

-- the sweep up to c between these readers
unfoldable pub thin_at : (c : ℕ) → (readers : List ℕ) → List Entry → Outcome
thin_at c ts es = answering (thinned (drops (goes c ts) es)) (trims c (goes c ts))

-- the replay r beside the desks ds
unfoldable pub replay_beside : List Desk → Replay → Outcome
replay_beside ds r = check ((not (eqb (open_desks ds) 0), 17) ∷ []) (answering r.answer (replays r.commits))

unfoldable pub decide : Store → Call → Outcome
decide s begin =
    check ((not (is_some (free_desk s.desks)), 6) ∷ (is_spent s.hall, 8) ∷ [])
    (answering (began (suc s.hall.counter) (unwrap_or (free_desk s.desks) 0)) (opens (suc s.hall.counter)))
decide s (on t a) = act s.hall t a (writes_of t s.desks)
decide s (ask q) = reply s q
decide s (sweep limit) = sweep_at (cutoff (min limit s.hall.counter) s.desks) s.hall.entries
decide s (thin limit) = thin_at (min limit s.hall.counter) (open_starts s.desks) s.hall.entries
decide s (replay x) = replay_beside s.desks (replay_of s.hall 0 x)

-- ---- what each effect does

unfoldable pub apply : Store → Effect → Store
apply s stays = s
apply s (opens t) = record { hall = with_entries s.hall t s.hall.entries; desks = seat t s.desks }
apply s (writes t k p) = record { hall = s.hall; desks = redesk t (rewriting (put_write k p)) s.desks }
apply s (closes t) = record { hall = s.hall; desks = redesk t vacated s.desks }
apply s (publishes t n ws) =
    record { hall = with_entries s.hall n (publish n ws s.hall.entries); desks = redesk t vacated s.desks }
apply s (trims c g) = record {
  hall = with_floor (with_entries s.hall s.hall.counter (trim_all g s.hall.entries)) (max s.hall.floor c);
  desks = s.desks;
}
apply s (replays cs) = record { hall = with_commits s.hall cs; desks = s.desks }

abbrev pub answer : Store → Call → Answer
answer s c = (decide s c).answer

-- the store after a call
abbrev pub next : Store → Call → Store
next s c = apply s (decide s c).effect
