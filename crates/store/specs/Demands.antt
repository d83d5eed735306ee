-- The demands over the memories' bytes.
use Rattle.std.specs.Prelude.{ℕ, suc, ◌+◌, ◌-◌, ◌^◌, ◌<◌, ◌≤◌, max, ◌≡◌, ◌⊎◌, Bool, true, false, cond, length, Option, None, Some}
use mathlib.Core.List.{List, [], ◌∷◌, Memᴰ}
use Rattle.model.specs.Bytes.{Bytes}
use Rattle.model.specs.State.{Version, Entry, Store, is_some, or_empty, look, visible, newest_of, version_count, find, writes_of, open_desks, open_starts, redesk, vacated, with_floor, vacant}
use Rattle.model.specs.Sweeps.{is_read}
use Rattle.model.specs.Sound.{key_fits}
use Rattle.model.specs.Dump.{dump_hall}
use Rattle.model.specs.Calls.{Act, read, commit_to, refusal, newest, as_of, dump, Call, on, begin, ask, sweep, thin, Answer, refused, done, began, swept, thinned, dumped, returning, clashes, decide}
use Rattle.model.specs.Runs.{Creation, load, sizes_of, run}
use Rattle.model.specs.History.{creates_in_bytes, still_open, Rising, last_write, history, top_cutoff, top_thinned, never_thins, first_floor, is_replay, is_sweep, is_named, is_full, is_under, is_commit, is_commit_under, own}
use Rattle.model.specs.Demands.{held, thin_out, bury, is_gone, gone_keys, reads_as, reads_at, HoldsPrintable, given_key, Refuses, claim_made, claim_held, DesksGiven, Smallest}
use Rattle.answers.specs.declared.Committed.{Committed}
use Rattle.answers.specs.Paper.{paper_committed}
use Rattle.hall.specs.Layout as hall
use Rattle.hall.specs.Layout.{hall_in}
use Rattle.desk.specs.Layout.{desks_in, put_desks}
use Rattle.bridge.specs.Store.{store_in, is_sound_for, outcome_on, answer_on, bytes_on, hall_after, desk_after, Sound, Memories, after_call, response_on}
use Rattle.bridge.specs.Clauses.{DumpCalled, clashes_on, Committing}
use Rattle.bridge.specs.Creations.{are_long_for, created_on}
use Rattle.store.specs.Runs.{create_on, Step, call, create, steps_on, calls_of, Steps}

-- ---- demand 1

-- a call that is refused for anything but a conflict changes not a byte, whatever the memories hold; nor does a replay
-- that is refused 1 or 17: any other stops at a record, and what it did before stands
abbrev pub RefusedUnchanged : Type 0
RefusedUnchanged =
    (h d : Bytes) (c : Call) (n : ℕ) → refusal (answer_on h d c) ≡ suc n → (suc n ≡ 9 → ⊥)
    → (is_replay c ≡ true → (suc n ≡ 1) ⊎ (suc n ≡ 17))
    → (hall_after h d c ≡ h) × (desk_after h d c ≡ d)

-- a refused call hands back no bytes, and a refused dump leaves its output
abbrev pub RefusedEmpty : Type 0
RefusedEmpty = (h d : Bytes) (c : Call) (n : ℕ) → refusal (answer_on h d c) ≡ suc n → bytes_on h d c ≡ []

abbrev pub RefusedOutput : Type 0
RefusedOutput =
    (h before after : Bytes) (a : Answer) (n : ℕ) → DumpCalled h before after a → refusal a ≡ suc n → after ≡ before

-- a make or load that is refused, for its sizes, for a short memory or for its dump, changes not a byte
abbrev pub RefusedCreation : Type 0
RefusedCreation =
    (m : Memories) (o : Creation) (n : ℕ) → refusal (created_on m.hall m.desk o).0 ≡ suc n → create_on m o ≡ m

-- a commit that is refused for a conflict empties the desk of its transaction and does no more
abbrev pub ConflictCloses : Type 0
ConflictCloses =
    (h d : Bytes) (c : Call) → refusal (answer_on h d c) ≡ 9
    → (t : ℕ) × (j : Option ℕ) × (c ≡ on t (commit_to j)) × (hall_after h d c ≡ h)
    × (desk_after h d c ≡ put_desks d (redesk t vacated (desks_in d)))

-- a commit that is not in conflict leaves the output for its clashes
abbrev pub ListKept : Type 0
ListKept =
    (j : Option ℕ) (h d h' d' before after : Bytes) (t : ℕ) (r : Committed)
    → Committing j h d h' d' before after t r → (refusal (paper_committed (clashes_on j h d t) r) ≡ 9 → ⊥)
    → after ≡ before

-- before a commit nothing is published: not a byte of hall memory changes
abbrev pub HallKept : Type 0
HallKept = (h d : Bytes) (t : ℕ) (a : Act) → is_commit a ≡ false → hall_after h d (on t a) ≡ h

-- ---- runs

-- on memories that nobody else writes, the creation o was accepted with the store s, and the steps xs followed
pub record RunOn (m : Memories) (o : Creation) (s : Store) (xs : List Step) : Type 0 where
  pub accepted : created_on m.hall m.desk o ≡ (done, Some s)
  pub dump : creates_in_bytes o ≡ true
  pub steps : Steps (create_on m o) xs

-- the memories after it
abbrev pub present : Memories → Creation → List Step → Memories
present m o xs = steps_on (create_on m o) xs

-- at every moment each call does what the model's call does on the model's run
abbrev pub EachStep : Type 0
EachStep =
    (m : Memories) (o : Creation) (s : Store) (xs : List Step) → RunOn m o s xs → (c : Call)
    → outcome_on (present m o xs).hall (present m o xs).desk c ≡ decide (run s (calls_of xs)) c

-- the transaction with start t is open
abbrev pub Open : Memories → ℕ → Type 0
Open m t = is_some (writes_of t (desks_in m.desk)) ≡ true

-- a start is open exactly if some begin answered it and no commit, conflict or abort under it was answered since
abbrev pub OpenExact : Type 0
OpenExact =
    (m : Memories) (o : Creation) (s : Store) (xs : List Step) → RunOn m o s xs → (t : ℕ)
    → is_some (writes_of t (desks_in (present m o xs).desk)) ≡ still_open t false s (calls_of xs)

-- a begin is refused 6 exactly if all desks that were chosen are taken, and gives none beyond them
abbrev pub DesksExact : Type 0
DesksExact =
    (m : Memories) (o : Creation) (s : Store) (xs : List Step) → RunOn m o s xs
    → DesksGiven (sizes_of o).2 (open_desks (desks_in (present m o xs).desk))
    (answer_on (present m o xs).hall (present m o xs).desk begin)

-- ---- demand 2

-- the numbers of a key's history strictly ascend, from 1 up to the counter
abbrev pub HistoryRises : Type 0
HistoryRises =
    (m : Memories) (o : Creation) (s : Store) (xs : List Step) → RunOn m o s xs → (k : Bytes)
    → Rising 0 (hall_in (present m o xs).hall).counter (history k s (calls_of xs))

-- a desk holds the last write that the run made of each key under its start, a deletion too, and of no other key
abbrev pub HoldsWrites : Type 0
HoldsWrites =
    (m : Memories) (o : Creation) (s : Store) (xs : List Step) → RunOn m o s xs → (t : ℕ) (k : Bytes)
    → Open (present m o xs) t
    → find k (or_empty (writes_of t (desks_in (present m o xs).desk))) ≡ last_write t k s (calls_of xs)

-- "A read gives the transaction's own last write, else the newest version committed at or below its start number."
abbrev pub ReadsSnapshot : Type 0
ReadsSnapshot =
    (m : Memories) (o : Creation) (s : Store) (xs : List Step) → RunOn m o s xs → (t : ℕ) (k : Bytes)
    → Open (present m o xs) t → key_fits k ≡ true
    → response_on (present m o xs).hall (present m o xs).desk (on t (read k))
    ≡ reads_as (last_write t k s (calls_of xs)) (visible t (history k s (calls_of xs)))

-- newest gives the last version of the history; it is lent hall memory alone
abbrev pub ReadsNewest : Type 0
ReadsNewest =
    (m : Memories) (o : Creation) (s : Store) (xs : List Step) → RunOn m o s xs → (k : Bytes) → key_fits k ≡ true
    → response_on (present m o xs).hall [] (ask (newest k)) ≡ reads_as None (newest_of (history k s (calls_of xs)))

-- "A commit by an open transaction is refused for conflict exactly if a key it writes has a version numbered above that
-- start", with "all clashing keys with their newest numbers, ascending"
abbrev pub ConflictExact : Type 0
ConflictExact =
    (m : Memories) (o : Creation) (s : Store) (xs : List Step) → RunOn m o s xs → (t : ℕ) → Open (present m o xs) t
    → (j : Option ℕ)
    → Refuses (claim_made s (calls_of xs) t) t
    (answer_on (present m o xs).hall (present m o xs).desk (on t (commit_to j)))

-- sound hall memory is dumped whole into any output that is long enough
abbrev pub Dumps : Type 0
Dumps =
    (h : Bytes) (room : ℕ) → hall.is_sound h ≡ true → length (dump_hall (hall_in h)) ≤ room
    → outcome_on h [] (ask (dump room)) ≡ returning (dumped (length (dump_hall (hall_in h)))) (dump_hall (hall_in h))

-- what load accepts is dumped again as it was
abbrev pub LoadThenDump : Type 0
LoadThenDump =
    (m : Memories) (x : Bytes) (ks vs ds : ℕ) (s : Store) → RunOn m (load x ks vs ds) s [] → (room : ℕ)
    → length x ≤ room
    → outcome_on (create_on m (load x ks vs ds)).hall [] (ask (dump room)) ≡ returning (dumped (length x)) x

-- the bytes that a dump of hall memory h hands out, loaded into the same sizes
abbrev pub reload : (h : Bytes) (room : ℕ) → Creation
reload h room =
    load (bytes_on h [] (ask (dump room))) (hall_in h).key_rooms (hall_in h).version_rooms (hall_in h).desk_count

-- whenever a dump is handed out, load gives back its hall with the counter as its floor and all desks free, into any
-- memories that are long enough
abbrev pub DumpThenLoad : Type 0
DumpThenLoad =
    (h : Bytes) (room n : ℕ) → answer_on h [] (ask (dump room)) ≡ dumped n → (m : Memories)
    → are_long_for m.hall m.desk (reload h room) ≡ true
    → created_on m.hall m.desk (reload h room) ≡ (done, Some (vacant (with_floor (hall_in h) (hall_in h).counter)))

-- ---- demand 3

-- "At every moment the store holds, for each key, exactly the versions the run committed or loaded above C, and the
-- newest one at or below C, if it is a value", in runs without sweeps between readers
abbrev pub HoldsHistory : Type 0
HoldsHistory =
    (m : Memories) (o : Creation) (s : Store) (xs : List Step) → RunOn m o s xs → never_thins (calls_of xs) ≡ true
    → (k : Bytes)
    → look k (hall_in (present m o xs).hall).entries ≡ held (top_cutoff s (calls_of xs)) (history k s (calls_of xs))

-- what the callers see of those calls that f marks
unfoldable pub responses_on : (f : Call → Bool) → Memories → List Step → List (Answer × Bytes)
responses_on f m [] = []
responses_on f m (call c ∷ xs) =
    cond (f c) (response_on m.hall m.desk c ∷ responses_on f (after_call m c) xs) (responses_on f (after_call m c) xs)
responses_on f m (create o ∷ xs) = responses_on f (create_on m o) xs

-- without the calls that f marks
unfoldable pub without : (f : Call → Bool) → List Step → List Step
without f [] = []
without f (call c ∷ xs) = cond (f c) (without f xs) (call c ∷ without f xs)
without f (create o ∷ xs) = create o ∷ without f xs

-- the steps before the first call that the run without sweeps, now at m, refuses for lack of room
unfoldable pub until_full_on : Memories → List Step → List Step
until_full_on m [] = []
until_full_on m (call c ∷ xs) =
    cond (is_sweep c)
    (call c ∷ until_full_on m xs)
    (cond (is_full (answer_on m.hall m.desk c)) [] (call c ∷ until_full_on (after_call m c) xs))
until_full_on m (create o ∷ xs) = create o ∷ until_full_on (create_on m o) xs

-- "Strike all sweeps from the run", those of both kinds: "up to the first commit that the struck run refuses for lack
-- of room, every begin, read, write, commit and abort answers the same."
abbrev pub SweepsUnseen : Type 0
SweepsUnseen =
    (m : Memories) (o : Creation) (s : Store) (xs : List Step) → RunOn m o s xs
    → responses_on is_named (create_on m o) (until_full_on (create_on m o) xs)
    ≡ responses_on is_named (create_on m o) (without is_sweep (until_full_on (create_on m o) xs))

-- ---- the map as it stood at a number

-- "the floor is the larger of C and the floor the run began with", in runs without sweeps between readers
abbrev pub FloorExact : Type 0
FloorExact =
    (m : Memories) (o : Creation) (s : Store) (xs : List Step) → RunOn m o s xs → never_thins (calls_of xs) ≡ true
    → (hall_in (present m o xs).hall).floor ≡ max (top_cutoff s (calls_of xs)) (first_floor o s)

-- in any run: each sweep between readers raises it to "the larger of itself and the smaller of limit and counter"
abbrev pub FloorRaised : Type 0
FloorRaised =
    (m : Memories) (o : Creation) (s : Store) (xs : List Step) → RunOn m o s xs
    → (hall_in (present m o xs).hall).floor
    ≡ max (top_cutoff s (calls_of xs)) (max (top_thinned s (calls_of xs)) (first_floor o s))

-- from floor to counter the read goes by the run's whole history, swept versions included; it is lent hall memory alone
abbrev pub ReadsAsOf : Type 0
ReadsAsOf =
    (m : Memories) (o : Creation) (s : Store) (xs : List Step) → RunOn m o s xs
    → (n : ℕ) (k : Bytes) → key_fits k ≡ true → response_on (present m o xs).hall [] (ask (as_of n k))
    ≡ reads_at n (hall_in (present m o xs).hall) (history k s (calls_of xs))

-- the map at a number that is counted does not change: whatever steps follow on sound memories, the answer stays until
-- the floor is above that number
abbrev pub AsOfStable : Type 0
AsOfStable =
    (m : Memories) → Sound m.hall m.desk → (xs : List Step) → Steps m xs
    → (n : ℕ) → n ≤ (hall_in m.hall).counter → (hall_in (steps_on m xs).hall).floor ≤ n → (k : Bytes)
    → response_on (steps_on m xs).hall [] (ask (as_of n k)) ≡ response_on m.hall [] (ask (as_of n k))

-- ---- also wanted

-- the steps before the first call that f marks
unfoldable pub before : (f : Call → Bool) → List Step → List Step
before f [] = []
before f (call c ∷ xs) = cond (f c) [] (call c ∷ before f xs)
before f (create o ∷ xs) = create o ∷ before f xs

-- a transaction is told the same up to its first commit, if its own calls up to there are the same, whatever the others
-- do
abbrev pub SnapshotStable : Type 0
SnapshotStable =
    (m : Memories) (o : Creation) (s : Store) (zs : List Step) → RunOn m o s zs → (t d : ℕ)
    → answer_on (present m o zs).hall (present m o zs).desk begin ≡ began t d
    → (xs ys : List Step) → Steps (after_call (present m o zs) begin) xs → Steps (after_call (present m o zs) begin) ys
    → own t (calls_of (before (is_commit_under t) xs)) ≡ own t (calls_of (before (is_commit_under t) ys))
    → responses_on (is_under t) (after_call (present m o zs) begin) (before (is_commit_under t) xs)
    ≡ responses_on (is_under t) (after_call (present m o zs) begin) (before (is_commit_under t) ys)

-- ---- any two sound memories, whether or not calls would have led to them

-- a read goes by what the desk and the hall hold
abbrev pub ReadsHeld : Type 0
ReadsHeld =
    (h d : Bytes) → Sound h d → (t : ℕ) (k : Bytes) → is_some (writes_of t (desks_in d)) ≡ true → key_fits k ≡ true
    → response_on h d (on t (read k))
    ≡ reads_as (find k (or_empty (writes_of t (desks_in d)))) (visible t (look k (hall_in h).entries))

abbrev pub NewestHeld : Type 0
NewestHeld =
    (h : Bytes) → hall.is_sound h ≡ true → (k : Bytes) → key_fits k ≡ true
    → response_on h [] (ask (newest k)) ≡ reads_as None (newest_of (look k (hall_in h).entries))

abbrev pub AsOfHeld : Type 0
AsOfHeld =
    (h : Bytes) → hall.is_sound h ≡ true → (n : ℕ) (k : Bytes) → key_fits k ≡ true
    → response_on h [] (ask (as_of n k)) ≡ reads_at n (hall_in h) (look k (hall_in h).entries)

-- a conflict goes by what they hold, and lists every clashing key
abbrev pub ConflictHeld : Type 0
ConflictHeld =
    (h d : Bytes) → Sound h d → (t : ℕ) → is_some (writes_of t (desks_in d)) ≡ true → (j : Option ℕ)
    → Refuses (claim_held (store_in h d) t) t (answer_on h d (on t (commit_to j)))

-- "Cutoff = smallest of limit, counter and every open start."
abbrev pub CutoffExact : Type 0
CutoffExact =
    (h d : Bytes) → Sound h d → (l : ℕ)
    → (c n : ℕ) × (answer_on h d (sweep l) ≡ swept c n) × Smallest (store_in h d) l c

-- a sweep leaves the versions above its cutoff and the newest at or below it, if it is a value, and its count is the
-- versions that are gone
abbrev pub SweepsHeld : Type 0
SweepsHeld =
    (h d : Bytes) (l c n : ℕ) → answer_on h d (sweep l) ≡ swept c n → (k : Bytes)
    → look k (hall_in (hall_after h d (sweep l))).entries ≡ held c (look k (hall_in h).entries)

abbrev pub DropsCounted : Type 0
DropsCounted =
    (h d : Bytes) (l c n : ℕ) → answer_on h d (sweep l) ≡ swept c n
    → n + version_count (hall_in (hall_after h d (sweep l))).entries ≡ version_count (hall_in h).entries

-- ---- gone rows make room

-- "No open start lies below that number": what a sweep drops is at or below its cutoff and every open start
abbrev pub DropsBelow : Type 0
DropsBelow =
    (h d : Bytes) (l c n : ℕ) → answer_on h d (sweep l) ≡ swept c n
    → (k : Bytes) (v : Version) → Memᴰ v (look k (hall_in h).entries)
    → Memᴰ v (look k (hall_in (hall_after h d (sweep l))).entries)
    ⊎ ((v.number ≤ c) × ((t : ℕ) → is_some (writes_of t (desks_in d)) ≡ true → v.number ≤ t))

-- "so conflicts stay as they are" after a sweep of either kind, whichever keys an open transaction writes and whatever
-- the memories hold
abbrev pub ConflictsStay : Type 0
ConflictsStay =
    (h d : Bytes) (c : Call) → is_sweep c ≡ true → (t : ℕ) → is_some (writes_of t (desks_in d)) ≡ true
    → (ks : List Bytes) → clashes t ks (hall_in (hall_after h d c)) ≡ clashes t ks (hall_in h)

-- "a key left with no version goes": no key is held that was gone at the cutoff
abbrev pub GoneNotHeld : Type 0
GoneNotHeld =
    (h d : Bytes) (l c n : ℕ) → answer_on h d (sweep l) ≡ swept c n
    → (e : Entry) → Memᴰ e (hall_in (hall_after h d (sweep l))).entries
    → is_gone c (newest_of (look e.key (hall_in h).entries)) ≡ false

-- each of them gives its key room back, and no other does
abbrev pub KeysGivenBack : Type 0
KeysGivenBack =
    (h d : Bytes) (l c n : ℕ) → answer_on h d (sweep l) ≡ swept c n
    → gone_keys c (hall_in h).entries + length (hall_in (hall_after h d (sweep l))).entries ≡ length (hall_in h).entries

-- so as many keys as are gone can be written anew, even where every room was taken
abbrev pub GoneMakeRoom : Type 0
GoneMakeRoom =
    (h d : Bytes) (l c n : ℕ) → answer_on h d (sweep l) ≡ swept c n
    → (t : ℕ) → is_some (writes_of t (desks_in d)) ≡ true
    → length (or_empty (writes_of t (desks_in d))) ≤ gone_keys c (hall_in h).entries → (j : Option ℕ)
    → is_full (answer_on (hall_after h d (sweep l)) (desk_after h d (sweep l)) (on t (commit_to j))) ≡ false

-- ---- sweeps between readers

-- "each such sweep leaves exactly the versions that the rule keeps"
abbrev pub ThinsHeld : Type 0
ThinsHeld =
    (h d : Bytes) (l n : ℕ) → answer_on h d (thin l) ≡ thinned n → (k : Bytes)
    → look k (hall_in (hall_after h d (thin l))).entries
    ≡ bury l (open_starts (desks_in d)) (thin_out l (open_starts (desks_in d)) (look k (hall_in h).entries))

-- what that test of the starts says: some open start is at or above lo and below hi
abbrev pub ReadExact : Type 0
ReadExact =
    (d : Bytes) (lo hi : ℕ)
    → (is_read lo hi (open_starts (desks_in d)) ≡ true
    → (t : ℕ) × (is_some (writes_of t (desks_in d)) ≡ true) × (lo ≤ t) × (t < hi))
    × ((t : ℕ) → is_some (writes_of t (desks_in d)) ≡ true → lo ≤ t → t < hi
    → is_read lo hi (open_starts (desks_in d)) ≡ true)

-- "After it, with limit 2^64 - 1, no key holds more than the number of open transactions plus one."
abbrev pub ThinsToFew : Type 0
ThinsToFew =
    (h d : Bytes) (n : ℕ) → answer_on h d (thin (2 ^ 64 - 1)) ≡ thinned n → (k : Bytes)
    → length (look k (hall_in (hall_after h d (thin (2 ^ 64 - 1)))).entries) ≤ open_desks (desks_in d) + 1

-- "It answers the number dropped": versions before less versions after; on sound memories it is never refused
abbrev pub ThinsCounted : Type 0
ThinsCounted =
    (h d : Bytes) → Sound h d → (l : ℕ) → (n : ℕ) × (answer_on h d (thin l) ≡ thinned n)
    × (n + version_count (hall_in (hall_after h d (thin l))).entries ≡ version_count (hall_in h).entries)

-- ---- only printable keys

-- "every byte of a key must be 33 to 126", of each key that sound memories hold
abbrev pub SoundPrintable : Type 0
SoundPrintable = (h d : Bytes) → Sound h d → HoldsPrintable (store_in h d)

-- so at every moment of a run, whatever was loaded and called
abbrev pub RunPrintable : Type 0
RunPrintable =
    (m : Memories) (o : Creation) (s : Store) (xs : List Step) → RunOn m o s xs
    → HoldsPrintable (store_in (present m o xs).hall (present m o xs).desk)

-- "Others are refusal 3 at calls", whatever else is wrong with the call, where refusal 1 does not come first
abbrev pub StrayRefused : Type 0
StrayRefused =
    (h d : Bytes) (c : Call) → is_sound_for c h d ≡ true
    → (k : Bytes) → given_key c ≡ Some k → (b : ℕ) → Memᴰ b k → (b < 33) ⊎ (126 < b)
    → answer_on h d c ≡ refused 3
