-- The demands (docs/RULES.md, 10) as statements over the model: each sentence, then what it says. Proved in
-- crates/model_laws.
use Rattle.std.specs.declared.cmp.Ordering.TheVariants.{Less}
use Rattle.std.specs.Prelude.{ℕ, suc, ◌+◌, ◌-◌, ◌^◌, ◌<◌, ◌≤◌, max, ◌≡◌, ◌⊎◌, Bool, true, false, not, ◌&&◌, cond, length, leb, ltb, eqb, Option, None, Some, option_map, option_to_list}
use mathlib.Core.List.{List, [], ◌∷◌, ◌++◌, Memᴰ}
use Rattle.model.specs.Bytes.{Bytes, are_bytes, order}
use Rattle.model.specs.State.{Payload, deletion, content, Version, Chain, Entry, Hall, Write, Store, is_deletion, given, is_some, or_empty, look, visible, newest_of, version_count, find, writes_of, open_desks, open_starts, redesk, vacated, with_floor, vacant}
use Rattle.model.specs.Sweeps.{is_read}
use Rattle.model.specs.Sound.{within, key_fits, sound_hall, sound}
use Rattle.model.specs.Dump.{dump_hall}
use Rattle.model.specs.Calls.{Act, read, commit_to, put, delete, abort, Question, newest, as_of, counts, dump, Call, begin, on, ask, sweep, thin, replay, Kind, own_value, hall_value, nothing_there, Answer, refused, conflict, began, found, done, swept, Clashes, thinned, refusal, clashes, decide, answer, next}
use Rattle.model.specs.Runs.{Creation, load, sizes_of, created, run, response}
use Rattle.model.specs.History.{in_bytes, all_in_bytes, creates_in_bytes, Run, Open, responses_to, last_write, still_open, history, Rising, top_cutoff, top_thinned, never_thins, first_floor, is_replay, is_sweep, strike, is_named, is_full, until_full, is_under, is_commit, own, up_to_commit}

-- ---- demand 1

-- "What can't be done is refused .. and changes no byte; one exception: a commit refused for conflict closes its
-- transaction." Also a replay that stops at a record, and so for another reason than 17: what it did before stands
abbrev pub RefusedUnchanged : Type 0
RefusedUnchanged =
    (s : Store) (c : Call) (n : ℕ) → refusal (answer s c) ≡ suc n → (suc n ≡ 9 → ⊥) → (is_replay c ≡ true → suc n ≡ 17)
    → next s c ≡ s

abbrev pub ConflictCloses : Type 0
ConflictCloses =
    (s : Store) (c : Call) → refusal (answer s c) ≡ 9
    → (t : ℕ) × (j : Option ℕ) × (c ≡ on t (commit_to j))
    × (next s c ≡ record { hall = s.hall; desks = redesk t vacated s.desks })

-- a refused call hands back no bytes
abbrev pub RefusedEmpty : Type 0
RefusedEmpty = (s : Store) (c : Call) (n : ℕ) → refusal (answer s c) ≡ suc n → (decide s c).bytes ≡ []

-- what an accepted make or load gives is sound, and a call leaves a sound store sound
abbrev pub StartsSound : Type 0
StartsSound = (o : Creation) (s : Store) → creates_in_bytes o ≡ true → created o ≡ (done, Some s) → sound s ≡ true

abbrev pub KeepsSound : Type 0
KeepsSound = (s : Store) (c : Call) → in_bytes c ≡ true → sound s ≡ true → sound (next s c) ≡ true

-- where n desks were chosen and so many are taken, a begin that answers a: "6: all chosen desks are taken", and no desk
-- beyond them is given
pub record DesksGiven (n taken : ℕ) (a : Answer) : Type 0 where
  pub full : eqb (refusal a) 6 ≡ eqb taken n
  pub below : (t d : ℕ) → a ≡ began t d → d < n

abbrev pub DesksExact : Type 0
DesksExact =
    (o : Creation) (s : Store) (cs : List Call) → Run o s cs
    → DesksGiven (sizes_of o).2 (open_desks (run s cs).desks) (answer (run s cs) begin)

-- ---- demand 2

-- after a run the start t is open exactly if some begin answered it and no commit, conflict or abort under it was
-- answered since
abbrev pub OpenExact : Type 0
OpenExact =
    (o : Creation) (s : Store) (cs : List Call) → Run o s cs → (t : ℕ)
    → is_some (writes_of t (run s cs).desks) ≡ still_open t false s cs

-- the numbers of a key's history strictly ascend, from 1 up to the counter: its newest version is its highest and its
-- last
abbrev pub HistoryRises : Type 0
HistoryRises =
    (o : Creation) (s : Store) (cs : List Call) → Run o s cs → (k : Bytes)
    → Rising 0 (run s cs).hall.counter (history k s cs)

-- the desk of an open transaction holds the last write that the run made of each key under that start, a deletion too,
-- and of no other key; so what a commit publishes is what its transaction wrote
abbrev pub HoldsWrites : Type 0
HoldsWrites =
    (o : Creation) (s : Store) (cs : List Call) → Run o s cs → (t : ℕ) (k : Bytes) → Open (run s cs) t
    → find k (or_empty (writes_of t (run s cs).desks)) ≡ last_write t k s cs

-- a value of that kind, or nothing there
unfoldable pub payload_as : Kind → Payload → Answer × Bytes
payload_as kind deletion = (found nothing_there, [])
payload_as kind (content b) = (found kind, b)

unfoldable pub reads_as : (own : Option Payload) → (committed : Option Version) → Answer × Bytes
reads_as (Some p) v = payload_as own_value p
reads_as None (Some v) = payload_as hall_value v.payload
reads_as None None = (found nothing_there, [])

-- "A read gives the transaction's own last write, else the newest version committed at or below its start number."
abbrev pub ReadsSnapshot : Type 0
ReadsSnapshot =
    (o : Creation) (s : Store) (cs : List Call) → Run o s cs → (t : ℕ) (k : Bytes) → Open (run s cs) t
    → key_fits k ≡ true
    → response (run s cs) (on t (read k)) ≡ reads_as (last_write t k s cs) (visible t (history k s cs))

-- the same of any store, by what its desk and its hall hold
abbrev pub ReadsHeld : Type 0
ReadsHeld =
    (s : Store) (t : ℕ) (k : Bytes) → Open s t → key_fits k ≡ true
    → response s (on t (read k))
    ≡ reads_as (find k (or_empty (writes_of t s.desks))) (visible t (look k s.hall.entries))

-- newest gives the key's last version
abbrev pub NewestHeld : Type 0
NewestHeld =
    (s : Store) (k : Bytes) → key_fits k ≡ true
    → response s (ask (newest k)) ≡ reads_as None (newest_of (look k s.hall.entries))

abbrev pub ReadsNewest : Type 0
ReadsNewest =
    (o : Creation) (s : Store) (cs : List Call) → Run o s cs → (k : Bytes) → key_fits k ≡ true
    → response (run s cs) (ask (newest k)) ≡ reads_as None (newest_of (history k s cs))

-- what a transaction writes of each key, and each key's versions
pub record Claim : Type 0 where
  pub writes : Bytes → Option Payload
  pub versions : Bytes → Chain

-- the transaction with start t writes key k, which has a version above t
pub record Clash (c : Claim) (t : ℕ) (k : Bytes) : Type 0 where
  pub written : is_some (c.writes k) ≡ true
  pub version : Version
  pub there : Memᴰ version (c.versions k)
  pub above : t < version.number

-- k is a clashing key, and n its newest number
pub record Clashing (c : Claim) (t : ℕ) (k : Bytes) (n : ℕ) : Type 0 where
  pub clash : Clash c t k
  pub newest : option_map (λ (v : Version). v.number) (newest_of (c.versions k)) ≡ Some n

-- k is the lowest clashing key, and n its newest number
pub record Named (c : Claim) (t : ℕ) (k : Bytes) (n : ℕ) : Type 0 where
  pub clashing : Clashing c t k n
  pub lowest : (j : Bytes) → Clash c t j → order j k ≡ Less → ⊥

-- a list begins with the lowest clashing key, so it is not empty
abbrev pub First : Claim → (t : ℕ) → Clashes → Type 0
First c t [] = ⊥
First c t (x ∷ l) = Named c t x.0 x.1

-- keys strictly ascend, all after `last`
abbrev pub Ascend : (last : Bytes) → Clashes → Type 0
Ascend last [] = Unit {0}
Ascend last (x ∷ l) = (order last x.0 ≡ Less) × Ascend x.0 l

-- exactly the clashing keys, ascending and so each once, each with its newest number
pub record Listed (c : Claim) (t : ℕ) (l : Clashes) : Type 0 where
  pub first : First c t l
  pub ascend : Ascend [] l
  pub every : (k : Bytes) → Clash c t k → (n : ℕ) × Memᴰ (k, n) l
  pub only : (k : Bytes) (n : ℕ) → Memᴰ (k, n) l → Clashing c t k n

-- an answer is a conflict exactly if some key clashes, and lists all that do
pub record Refuses (c : Claim) (t : ℕ) (a : Answer) : Type 0 where
  pub refuses : (k : Bytes) → Clash c t k → (l : Clashes) × (a ≡ conflict l)
  pub lists : (l : Clashes) → a ≡ conflict l → Listed c t l

-- by the run's own writes and history, swept versions included
abbrev pub claim_made : Store → List Call → (t : ℕ) → Claim
claim_made s cs t = record { writes = λ k. last_write t k s cs; versions = λ k. history k s cs }

-- by what desk and hall hold
abbrev pub claim_held : Store → (t : ℕ) → Claim
claim_held s t =
    record { writes = λ k. find k (or_empty (writes_of t s.desks)); versions = λ k. look k s.hall.entries }

-- "A commit by an open transaction is refused for conflict exactly if a key it writes has a version numbered above that
-- start", with "all clashing keys with their newest numbers, ascending"; "the lowest such key" is the first
abbrev pub ConflictExact : Type 0
ConflictExact =
    (o : Creation) (s : Store) (cs : List Call) → Run o s cs → (t : ℕ) → Open (run s cs) t → (j : Option ℕ)
    → Refuses (claim_made s cs t) t (answer (run s cs) (on t (commit_to j)))

-- the same of any sound store
abbrev pub ConflictHeld : Type 0
ConflictHeld =
    (s : Store) → sound s ≡ true → (t : ℕ) → Open s t → (j : Option ℕ)
    → Refuses (claim_held s t) t (answer s (on t (commit_to j)))

-- "An accepted dump, loaded and dumped again, is the same bytes"
abbrev pub LoadThenDump : Type 0
LoadThenDump =
    (x : Bytes) (ks vs ds : ℕ) (s : Store) → are_bytes x ≡ true → created (load x ks vs ds) ≡ (done, Some s)
    → dump_hall s.hall ≡ x

-- "a dumped store, loaded into the same sizes, is the same store without its open transactions"; "but for the floor",
-- which is then the counter
abbrev pub DumpThenLoad : Type 0
DumpThenLoad =
    (h : Hall) → sound_hall h ≡ true
    → created (load (dump_hall h) h.key_rooms h.version_rooms h.desk_count)
    ≡ (done, Some (vacant (with_floor h h.counter)))

-- ---- demand 3

-- the versions above c
unfoldable pub newer_than : ℕ → Chain → Chain
newer_than c [] = []
newer_than c (v ∷ vs) = cond (ltb c v.number) (v ∷ newer_than c vs) (newer_than c vs)

-- a version, if it is a value
abbrev pub if_value : Option Version → Option Version
if_value None = None
if_value (Some v) = given (not (is_deletion v.payload)) v

-- the newest one at or below c, if it is a value, and those above c
unfoldable pub held : ℕ → Chain → Chain
held c vs = option_to_list (if_value (visible c vs)) ++ newer_than c vs

-- "At every moment the store holds, for each key, exactly the versions the run committed or loaded above C, and the
-- newest one at or below C, if it is a value", in runs without sweeps between readers
abbrev pub HoldsHistory : Type 0
HoldsHistory =
    (o : Creation) (s : Store) (cs : List Call) → Run o s cs → never_thins cs ≡ true → (k : Bytes)
    → look k (run s cs).hall.entries ≡ held (top_cutoff s cs) (history k s cs)

-- "Cutoff = smallest of limit, counter and every open start."
pub record Smallest (s : Store) (l c : ℕ) : Type 0 where
  pub limit : c ≤ l
  pub counter : c ≤ s.hall.counter
  pub starts : (t : ℕ) → Open s t → c ≤ t
  pub one_of : (c ≡ l) ⊎ ((c ≡ s.hall.counter) ⊎ Open s c)

-- a sweep is never refused, and answers that cutoff
abbrev pub CutoffExact : Type 0
CutoffExact = (s : Store) (l : ℕ) → (c d : ℕ) × (answer s (sweep l) ≡ swept c d) × Smallest s l c

-- what a sweep leaves of any sound store: the versions above its cutoff, and the newest at or below it, if it is a
-- value
abbrev pub SweepsHeld : Type 0
SweepsHeld =
    (s : Store) → sound s ≡ true → (l c d : ℕ) → answer s (sweep l) ≡ swept c d → (k : Bytes)
    → look k (next s (sweep l)).hall.entries ≡ held c (look k s.hall.entries)

-- "Strike all sweeps from the run", those of both kinds: "up to the first commit that the struck run refuses for lack
-- of room, every begin, read, write, commit and abort answers the same."
abbrev pub SweepsUnseen : Type 0
SweepsUnseen =
    (o : Creation) (s : Store) (cs : List Call) → Run o s cs
    → responses_to is_named s (until_full s cs) ≡ responses_to is_named s (strike (until_full s cs))

-- ---- gone rows make room

-- "No open start lies below that number": what a sweep drops is at or below its cutoff and every open start
abbrev pub DropsBelow : Type 0
DropsBelow =
    (s : Store) → sound s ≡ true → (l c d : ℕ) → answer s (sweep l) ≡ swept c d
    → (k : Bytes) (v : Version) → Memᴰ v (look k s.hall.entries)
    → Memᴰ v (look k (next s (sweep l)).hall.entries) ⊎ ((v.number ≤ c) × ((t : ℕ) → Open s t → v.number ≤ t))

-- "so conflicts stay as they are" after a sweep of either kind, whichever keys an open transaction writes
abbrev pub ConflictsStay : Type 0
ConflictsStay =
    (s : Store) → sound s ≡ true → (c : Call) → is_sweep c ≡ true → (t : ℕ) → Open s t → (ks : List Bytes)
    → clashes t ks (next s c).hall ≡ clashes t ks s.hall

-- a key is gone at c if its newest version is a deletion at or below c
abbrev pub is_gone : (c : ℕ) → (newest : Option Version) → Bool
is_gone c None = false
is_gone c (Some v) = is_deletion v.payload && leb v.number c

unfoldable pub gone_keys : (c : ℕ) → List Entry → ℕ
gone_keys c [] = 0
gone_keys c (e ∷ es) = cond (is_gone c (newest_of e.chain)) 1 0 + gone_keys c es

-- "a key left with no version goes": no key is held that was gone at the cutoff
abbrev pub GoneNotHeld : Type 0
GoneNotHeld =
    (s : Store) → sound s ≡ true → (l c d : ℕ) → answer s (sweep l) ≡ swept c d
    → (e : Entry) → Memᴰ e (next s (sweep l)).hall.entries
    → is_gone c (newest_of (look e.key s.hall.entries)) ≡ false

-- each of them gives its key room back, and no other does
abbrev pub KeysGivenBack : Type 0
KeysGivenBack =
    (s : Store) → sound s ≡ true → (l c d : ℕ) → answer s (sweep l) ≡ swept c d
    → gone_keys c s.hall.entries + length (next s (sweep l)).hall.entries ≡ length s.hall.entries

-- so as many keys as are gone can be written anew, even where every room was taken
abbrev pub GoneMakeRoom : Type 0
GoneMakeRoom =
    (s : Store) → sound s ≡ true → (l c d : ℕ) → answer s (sweep l) ≡ swept c d → (t : ℕ) → Open s t
    → length (or_empty (writes_of t s.desks)) ≤ gone_keys c s.hall.entries → (j : Option ℕ)
    → is_full (answer (next s (sweep l)) (on t (commit_to j))) ≡ false

-- ---- sweeps between readers

-- "a version goes if its successor is at or below the limit and no open start is at or above the version and below its
-- successor"
unfoldable pub thin_out : (limit : ℕ) → (starts : List ℕ) → Chain → Chain
thin_out l ts [] = []
thin_out l ts (v ∷ []) = v ∷ []
thin_out l ts (v ∷ w ∷ vs) =
    cond (leb w.number l && not (is_read v.number w.number ts))
    (thin_out l ts (w ∷ vs))
    (v ∷ thin_out l ts (w ∷ vs))

-- "a deletion also goes if it is then the oldest its key holds, its number is at or below the limit, and no open start
-- lies below it"
unfoldable pub bury : (limit : ℕ) → (starts : List ℕ) → Chain → Chain
bury l ts [] = []
bury l ts (v ∷ vs) =
    cond (is_deletion v.payload && (leb v.number l && not (is_read 0 v.number ts))) vs (v ∷ vs)

-- "each such sweep leaves exactly the versions that the rule keeps"
abbrev pub ThinsHeld : Type 0
ThinsHeld =
    (s : Store) → sound s ≡ true → (l : ℕ) (k : Bytes)
    → look k (next s (thin l)).hall.entries
    ≡ bury l (open_starts s.desks) (thin_out l (open_starts s.desks) (look k s.hall.entries))

-- what that test of the starts says: some open start is at or above lo and below hi
abbrev pub ReadExact : Type 0
ReadExact =
    (s : Store) (lo hi : ℕ)
    → (is_read lo hi (open_starts s.desks) ≡ true → (t : ℕ) × Open s t × (lo ≤ t) × (t < hi))
    × ((t : ℕ) → Open s t → lo ≤ t → t < hi → is_read lo hi (open_starts s.desks) ≡ true)

-- "After it, with limit 2^64 - 1, no key holds more than the number of open transactions plus one."
abbrev pub ThinsToFew : Type 0
ThinsToFew =
    (s : Store) → sound s ≡ true → (k : Bytes)
    → length (look k (next s (thin (2 ^ 64 - 1))).hall.entries) ≤ open_desks s.desks + 1

-- "It answers the number dropped": versions before less versions after; it is never refused
abbrev pub ThinsCounted : Type 0
ThinsCounted =
    (s : Store) (l : ℕ)
    → (d : ℕ) × (answer s (thin l) ≡ thinned d)
    × (d + version_count (next s (thin l)).hall.entries ≡ version_count s.hall.entries)

-- ---- the map as it stood at a number

-- "the floor is the larger of C and the floor the run began with", in runs without sweeps between readers
abbrev pub FloorExact : Type 0
FloorExact =
    (o : Creation) (s : Store) (cs : List Call) → Run o s cs → never_thins cs ≡ true
    → (run s cs).hall.floor ≡ max (top_cutoff s cs) (first_floor o s)

-- in any run: each sweep between readers raises it to "the larger of itself and the smaller of limit and counter"
abbrev pub FloorRaised : Type 0
FloorRaised =
    (o : Creation) (s : Store) (cs : List Call) → Run o s cs
    → (run s cs).hall.floor ≡ max (top_cutoff s cs) (max (top_thinned s cs) (first_floor o s))

-- "answers for n from floor to counter", of a key with these versions; "else new refusal 16"
unfoldable pub reads_at : (n : ℕ) → Hall → Chain → Answer × Bytes
reads_at n h vs = cond (within h.floor h.counter n) (reads_as None (visible n vs)) (refused 16, [])

-- by the run's whole history, swept versions included
abbrev pub ReadsAsOf : Type 0
ReadsAsOf =
    (o : Creation) (s : Store) (cs : List Call) → Run o s cs → (n : ℕ) (k : Bytes) → key_fits k ≡ true
    → response (run s cs) (ask (as_of n k)) ≡ reads_at n (run s cs).hall (history k s cs)

-- by what any store holds
abbrev pub AsOfHeld : Type 0
AsOfHeld =
    (s : Store) (n : ℕ) (k : Bytes) → key_fits k ≡ true
    → response s (ask (as_of n k)) ≡ reads_at n s.hall (look k s.hall.entries)

-- the map of a sound store at a number that is counted does not change: whatever calls follow, the answer stays until
-- the floor is above that number
abbrev pub AsOfStable : Type 0
AsOfStable =
    (s : Store) → sound s ≡ true → (cs : List Call) → all_in_bytes cs ≡ true
    → (n : ℕ) → n ≤ s.hall.counter → (run s cs).hall.floor ≤ n → (k : Bytes)
    → response (run s cs) (ask (as_of n k)) ≡ response s (ask (as_of n k))

-- ---- only printable keys

-- "every byte of a key must be 33 to 126"
abbrev pub Printable : Bytes → Type 0
Printable k = (b : ℕ) → Memᴰ b k → (33 ≤ b) × (b ≤ 126)

-- of each key that a store holds, in the hall or written at a desk
pub record HoldsPrintable (s : Store) : Type 0 where
  pub hall : (e : Entry) → Memᴰ e s.hall.entries → Printable e.key
  pub desks : (t : ℕ) (w : Write) → Memᴰ w (or_empty (writes_of t s.desks)) → Printable w.key

-- others are "unsound in memory"
abbrev pub SoundPrintable : Type 0
SoundPrintable = (s : Store) → sound s ≡ true → HoldsPrintable s

-- so at every moment of a run, whatever was loaded and called
abbrev pub RunPrintable : Type 0
RunPrintable = (o : Creation) (s : Store) (cs : List Call) → Run o s cs → HoldsPrintable (run s cs)

-- the key that a call is given
abbrev pub act_key : Act → Option Bytes
act_key (read k) = Some k
act_key (put k v) = Some k
act_key (delete k) = Some k
act_key (commit_to j) = None
act_key abort = None

abbrev pub question_key : Question → Option Bytes
question_key (newest k) = Some k
question_key (as_of n k) = Some k
question_key counts = None
question_key (dump n) = None

abbrev pub given_key : Call → Option Bytes
given_key begin = None
given_key (on t a) = act_key a
given_key (ask q) = question_key q
given_key (sweep l) = None
given_key (thin l) = None
given_key (replay x) = None

-- "Others are refusal 3 at calls", whatever else is wrong with the call
abbrev pub StrayRefused : Type 0
StrayRefused =
    (s : Store) (c : Call) (k : Bytes) → given_key c ≡ Some k → (b : ℕ) → Memᴰ b k → (b < 33) ⊎ (126 < b)
    → answer s c ≡ refused 3

-- ---- also wanted

-- two runs equal up to and with a begin, then up to its first commit with the same calls in the same order under that
-- start, give that transaction the same reads up to there, whatever others do
abbrev pub SnapshotStable : Type 0
SnapshotStable =
    (o : Creation) (s : Store) (cs : List Call) → Run o s cs → (t d : ℕ) → answer (run s cs) begin ≡ began t d
    → (xs ys : List Call) → all_in_bytes xs ≡ true → all_in_bytes ys ≡ true
    → own t (up_to_commit t xs) ≡ own t (up_to_commit t ys)
    → responses_to (is_under t) (next (run s cs) begin) (up_to_commit t xs)
    ≡ responses_to (is_under t) (next (run s cs) begin) (up_to_commit t ys)

-- ---- what stops a useless store

-- before a commit nothing is published
abbrev pub HallKept : Type 0
HallKept = (s : Store) (t : ℕ) (a : Act) → is_commit a ≡ false → (next s (on t a)).hall ≡ s.hall

-- the dropped count equals versions before less versions after
abbrev pub DropsCounted : Type 0
DropsCounted =
    (s : Store) (l c d : ℕ) → answer s (sweep l) ≡ swept c d
    → d + version_count (next s (sweep l)).hall.entries ≡ version_count s.hall.entries
