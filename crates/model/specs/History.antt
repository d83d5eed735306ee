-- What a run does: its calls, what callers see of them, what it wrote, committed and swept, and parts of it.
use Rattle.std.specs.Prelude.{ℕ, ◌<◌, ◌≤◌, min, max, ◌≡◌, Bool, true, false, not, ◌&&◌, ◌||◌, cond, List, [], ◌∷◌, ◌++◌, eqb, Option, None, Some}
use Rattle.model.specs.Bytes.{Bytes, are_bytes, order, is_same}
use Rattle.model.specs.State.{Payload, deletion, content, Chain, Store, or_else, given, is_some, or_empty, look, find, writes_of}
use Rattle.model.specs.Journal.{Commit}
use Rattle.model.specs.Calls.{Act, read, put, delete, commit_to, abort, Call, begin, on, ask, sweep, thin, replay, Answer, refused, conflict, faulty, began, found, done, committed, closed, swept, thinned, counted, dumped, replayed, refusal, Effect, stays, opens, writes, closes, publishes, trims, replays, decide, answer, next}
use Rattle.model.specs.Runs.{Creation, make, load, created, response}

-- ---- runs

-- the keys, values, dumps and journals that come in are bytes
unfoldable pub act_in_bytes : Act → Bool
act_in_bytes (read k) = are_bytes k
act_in_bytes (put k v) = are_bytes k && are_bytes v
act_in_bytes (delete k) = are_bytes k
act_in_bytes (commit_to j) = true
act_in_bytes abort = true

unfoldable pub in_bytes : Call → Bool
in_bytes begin = true
in_bytes (on t a) = act_in_bytes a
in_bytes (ask q) = true
in_bytes (sweep l) = true
in_bytes (thin l) = true
in_bytes (replay x) = are_bytes x

unfoldable pub all_in_bytes : List Call → Bool
all_in_bytes [] = true
all_in_bytes (c ∷ cs) = in_bytes c && all_in_bytes cs

unfoldable pub creates_in_bytes : Creation → Bool
creates_in_bytes (make ks vs ds) = true
creates_in_bytes (load x ks vs ds) = are_bytes x

-- the calls cs, on the store s that an accepted make or load gave
pub record Run (o : Creation) (s : Store) (cs : List Call) : Type 0 where
  pub accepted : created o ≡ (done, Some s)
  pub dump : creates_in_bytes o ≡ true
  pub calls : all_in_bytes cs ≡ true

-- the transaction with start t is open
abbrev pub Open : Store → ℕ → Type 0
Open s t = is_some (writes_of t s.desks) ≡ true

-- what the callers see of those calls that f marks
unfoldable pub responses_to : (f : Call → Bool) → Store → List Call → List (Answer × Bytes)
responses_to f s [] = []
responses_to f s (c ∷ cs) = cond (f c) (response s c ∷ responses_to f (next s c) cs) (responses_to f (next s c) cs)

-- ---- what a run wrote, committed and swept

-- what a put or delete writes of key k
unfoldable pub written : Bytes → Act → Option Payload
written k (read j) = None
written k (put j v) = given (is_same (order k j)) (content v)
written k (delete j) = given (is_same (order k j)) deletion
written k (commit_to j) = None
written k abort = None

-- what a call that is not refused writes of key k under start t
unfoldable pub written_by : (t : ℕ) → Bytes → Store → Call → Option Payload
written_by t k s begin = None
written_by t k s (on u a) = cond (eqb t u && eqb (refusal (answer s (on u a))) 0) (written k a) None
written_by t k s (ask q) = None
written_by t k s (sweep l) = None
written_by t k s (thin l) = None
written_by t k s (replay x) = None

unfoldable pub last_write : (t : ℕ) → Bytes → Store → List Call → Option Payload
last_write t k s [] = None
last_write t k s (c ∷ cs) = or_else (last_write t k (next s c) cs) (written_by t k s c)

unfoldable pub commit_number : Answer → Option ℕ
commit_number (refused n) = None
commit_number (conflict cs) = None
commit_number (faulty n at) = None
commit_number (began t d) = None
commit_number (found k) = None
commit_number done = None
commit_number (committed n) = Some n
commit_number closed = None
commit_number (swept c d) = None
commit_number (thinned d) = None
commit_number (counted k v d) = None
commit_number (dumped n) = None
commit_number (replayed n) = None

-- the answer of a begin that gave the start t
unfoldable pub gives : (t : ℕ) → Answer → Bool
gives t (refused n) = false
gives t (conflict cs) = false
gives t (faulty n at) = false
gives t (began u d) = eqb t u
gives t (found k) = false
gives t done = false
gives t (committed n) = false
gives t closed = false
gives t (swept c d) = false
gives t (thinned d) = false
gives t (counted k v d) = false
gives t (dumped n) = false
gives t (replayed n) = false

-- an answer that ends the transaction: a commit that is not refused, or refused for conflict, and an abort that is not
-- refused
unfoldable pub ends_by : Act → Answer → Bool
ends_by (read k) r = false
ends_by (put k v) r = false
ends_by (delete k) r = false
ends_by (commit_to j) r = eqb (refusal r) 0 || eqb (refusal r) 9
ends_by abort r = eqb (refusal r) 0

unfoldable pub ends_call : (t : ℕ) → Call → Answer → Bool
ends_call t begin r = false
ends_call t (on u a) r = ends_by a r && eqb t u
ends_call t (ask q) r = false
ends_call t (sweep l) r = false
ends_call t (thin l) r = false
ends_call t (replay x) r = false

-- some begin gave the start t, or it was open at first, and no call since has ended it
unfoldable pub still_open : (t : ℕ) → (first : Bool) → Store → List Call → Bool
still_open t b s [] = b
still_open t b s (c ∷ cs) = still_open t (gives t (answer s c) || (b && not (ends_call t c (answer s c)))) (next s c) cs

-- the version that a number and a payload make
unfoldable pub stamp : Option ℕ → Option Payload → Chain
stamp None p = []
stamp (Some n) None = []
stamp (Some n) (Some p) = record { number = n; payload = p } ∷ []

-- the versions of key k that commits make
unfoldable pub stamps : Bytes → List Commit → Chain
stamps k [] = []
stamps k (c ∷ cs) = stamp (Some c.number) (find k c.writes) ++ stamps k cs

-- the commits that a replay does
unfoldable pub replayed_by : Effect → List Commit
replayed_by stays = []
replayed_by (opens t) = []
replayed_by (writes t k p) = []
replayed_by (closes t) = []
replayed_by (publishes t n ws) = []
replayed_by (trims c g) = []
replayed_by (replays cs) = cs

-- the versions of key k that a call commits: its transaction's write, under the number answered, or what each record
-- replayed says
unfoldable pub gain : Bytes → Store → Call → Chain
gain k s begin = []
gain k s (on t a) = stamp (commit_number (answer s (on t a))) (find k (or_empty (writes_of t s.desks)))
gain k s (ask q) = []
gain k s (sweep l) = []
gain k s (thin l) = []
gain k s (replay x) = stamps k (replayed_by (decide s (replay x)).effect)

unfoldable pub gains : Bytes → Store → List Call → Chain
gains k s [] = []
gains k s (c ∷ cs) = gain k s c ++ gains k (next s c) cs

-- the versions of key k that the run loaded or committed, swept or not
unfoldable pub history : Bytes → Store → List Call → Chain
history k s cs = look k s.hall.entries ++ gains k s cs

-- numbers strictly ascend, above `last` and up to `top`
abbrev pub Rising : (last top : ℕ) → Chain → Type 0
Rising last top [] = last ≤ top
Rising last top (v ∷ vs) = (last < v.number) × Rising v.number top vs

unfoldable pub swept_cutoff : Answer → ℕ
swept_cutoff (refused n) = 0
swept_cutoff (conflict cs) = 0
swept_cutoff (faulty n at) = 0
swept_cutoff (began t d) = 0
swept_cutoff (found k) = 0
swept_cutoff done = 0
swept_cutoff (committed n) = 0
swept_cutoff closed = 0
swept_cutoff (swept c d) = c
swept_cutoff (thinned d) = 0
swept_cutoff (counted k v d) = 0
swept_cutoff (dumped n) = 0
swept_cutoff (replayed n) = 0

-- the largest cutoff swept so far, zero if none
unfoldable pub top_cutoff : Store → List Call → ℕ
top_cutoff s [] = 0
top_cutoff s (c ∷ cs) = max (swept_cutoff (answer s c)) (top_cutoff (next s c) cs)

unfoldable pub is_replay : Call → Bool
is_replay begin = false
is_replay (on t a) = false
is_replay (ask q) = false
is_replay (sweep l) = false
is_replay (thin l) = false
is_replay (replay x) = true

-- the smaller of limit and counter, where a call sweeps between readers
unfoldable pub thinned_to : Store → Call → ℕ
thinned_to s begin = 0
thinned_to s (on t a) = 0
thinned_to s (ask q) = 0
thinned_to s (sweep l) = 0
thinned_to s (thin l) = min l s.hall.counter
thinned_to s (replay x) = 0

-- the largest of them so far, zero if none
unfoldable pub top_thinned : Store → List Call → ℕ
top_thinned s [] = 0
top_thinned s (c ∷ cs) = max (thinned_to s c) (top_thinned (next s c) cs)

unfoldable pub is_thin : Call → Bool
is_thin begin = false
is_thin (on t a) = false
is_thin (ask q) = false
is_thin (sweep l) = false
is_thin (thin l) = true
is_thin (replay x) = false

-- no call sweeps between readers
unfoldable pub never_thins : List Call → Bool
never_thins [] = true
never_thins (c ∷ cs) = not (is_thin c) && never_thins cs

-- the floor that the run began with: in a new store nothing is swept, and a dump does not say what was
unfoldable pub first_floor : Creation → Store → ℕ
first_floor (make ks vs ds) s = 0
first_floor (load x ks vs ds) s = s.hall.counter

-- ---- a run without its sweeps

unfoldable pub is_sweep : Call → Bool
is_sweep begin = false
is_sweep (on t a) = false
is_sweep (ask q) = false
is_sweep (sweep l) = true
is_sweep (thin l) = true
is_sweep (replay x) = false

unfoldable pub strike : List Call → List Call
strike [] = []
strike (c ∷ cs) = cond (is_sweep c) (strike cs) (c ∷ strike cs)

-- begin, read, write, commit and abort; a replay is so many commits
unfoldable pub is_named : Call → Bool
is_named begin = true
is_named (on t a) = true
is_named (ask q) = false
is_named (sweep l) = false
is_named (thin l) = false
is_named (replay x) = true

-- refused for lack of room
unfoldable pub is_full : Answer → Bool
is_full a = eqb (refusal a) 10 || eqb (refusal a) 11

-- the calls before the first that the struck run, now at s, refuses for lack of room
unfoldable pub until_full : Store → List Call → List Call
until_full s [] = []
until_full s (c ∷ cs) =
    cond (is_sweep c) (c ∷ until_full s cs) (cond (is_full (answer s c)) [] (c ∷ until_full (next s c) cs))

-- ---- the calls of one transaction

unfoldable pub is_under : ℕ → Call → Bool
is_under t begin = false
is_under t (on u a) = eqb t u
is_under t (ask q) = false
is_under t (sweep l) = false
is_under t (thin l) = false
is_under t (replay x) = false

unfoldable pub is_commit : Act → Bool
is_commit (read k) = false
is_commit (put k v) = false
is_commit (delete k) = false
is_commit (commit_to j) = true
is_commit abort = false

unfoldable pub is_commit_under : ℕ → Call → Bool
is_commit_under t begin = false
is_commit_under t (on u a) = eqb t u && is_commit a
is_commit_under t (ask q) = false
is_commit_under t (sweep l) = false
is_commit_under t (thin l) = false
is_commit_under t (replay x) = false

-- the calls under start t
unfoldable pub own : ℕ → List Call → List Call
own t [] = []
own t (c ∷ cs) = cond (is_under t c) (c ∷ own t cs) (own t cs)

-- the calls before the first commit under start t
unfoldable pub up_to_commit : ℕ → List Call → List Call
up_to_commit t [] = []
up_to_commit t (c ∷ cs) = cond (is_commit_under t c) [] (c ∷ up_to_commit t cs)
