-- The journal's promises (docs/RULES.md, 10.8): what a replay does with any bytes, and that a dump and the journal
-- since rebuild what a run committed. Proved in crates/model_laws.
use Rattle.std.specs.Prelude.{ℕ, suc, ◌-◌, ◌^◌, ◌<◌, ◌≤◌, ◌≡◌, ◌⊎◌, Bool, true, false, ◌&&◌, cond, List, [], ◌∷◌, ◌++◌, length, take, leb, ltb, eqb, Option, None, Some}
use Rattle.model.specs.Sizes.{max_writes, last_number, count_width}
use Rattle.model.specs.Bytes.{Bytes, are_bytes, bytes}
use Rattle.model.specs.State.{Hall, Writes, Store, is_some, or_empty, look, visible, newest_of, value_of, version_count, writes_of, open_desks, vacant}
use Rattle.model.specs.Sound.{within, every, sizes_fit, sound_writes, sound}
use Rattle.model.specs.Dump.{dump_hall}
use Rattle.model.specs.Load.{fault}
use Rattle.model.specs.Journal.{Commit, with_commit, with_commits, mark, dump_body, framed, dump_commit, journal}
use Rattle.model.specs.Calls.{read, put, delete, commit_to, abort, Call, begin, on, ask, sweep, thin, replay, Answer, refused, faulty, done, replayed, rooms, above, decide, answer, next}
use Rattle.model.specs.Runs.{load, created, run}
use Rattle.model.specs.History.{all_in_bytes, Open, commit_number, history, top_cutoff, never_thins, is_full}
use Rattle.model.specs.Demands.{held}

-- ---- replays

-- from 1 to 16 sound writes under a number above the counter that can be issued
unfoldable pub is_lawful : (counter : ℕ) → Commit → Bool
is_lawful counter c =
    every
    (ltb counter c.number ∷ leb c.number last_number ∷ within 1 max_writes (length c.writes)
    ∷ sound_writes [] c.writes ∷ [])

-- each is lawful and has room, after those before it
unfoldable pub all_fit : Hall → List Commit → Bool
all_fit h [] = true
all_fit h (c ∷ cs) =
    every (is_lawful h.counter c ∷ eqb (fault (rooms h c.writes)) 0 ∷ all_fit (with_commit h c) cs ∷ [])

-- a replay of x answers a and does the commits cs, and no more: the counter is the last one's number, the floor stays
abbrev pub Replays : Store → Bytes → Answer → List Commit → Type 0
Replays s x a cs =
    (answer s (replay x) ≡ a) × (next s (replay x) ≡ record { hall = with_commits s.hall cs; desks = s.desks })

-- beside an open desk nothing is looked at and nothing done
abbrev pub ReplayOpen : Type 0
ReplayOpen =
    (s : Store) (x : Bytes) → (open_desks s.desks ≡ 0 → ⊥)
    → (answer s (replay x) ≡ refused 17) × (next s (replay x) ≡ s)

-- a whole journal: each of its commits in turn
abbrev pub ReplayWhole : Type 0
ReplayWhole =
    (s : Store) (cs : List Commit) → open_desks s.desks ≡ 0 → all_fit s.hall cs ≡ true
    → Replays s (journal cs) (replayed (length (journal cs))) cs

-- the commits whose records end within the first n bytes
unfoldable pub whole_in : ℕ → List Commit → List Commit
whole_in n [] = []
whole_in n (c ∷ cs) = cond (leb (length (dump_commit c)) n) (c ∷ whole_in (n - length (dump_commit c)) cs) []

-- cut after any byte: those that are whole, and where they end
abbrev pub ReplayCut : Type 0
ReplayCut =
    (s : Store) (cs : List Commit) (n : ℕ) → open_desks s.desks ≡ 0 → all_fit s.hall cs ≡ true
    → Replays s (take n (journal cs)) (replayed (length (journal (whole_in n cs)))) (whole_in n cs)

-- a mark, length or body that is not wholly there, whatever the bytes that are there say
pub data Torn : Bytes → Type 0 where
  in_mark : (x : Bytes) → length x < length mark → Torn x
  in_length : (x : Bytes) → length x < count_width → Torn (mark ++ x)
  in_body : (n : ℕ) (x : Bytes) → n < 256 ^ count_width → length x < n → Torn (mark ++ (bytes count_width n ++ x))

abbrev pub ReplayTorn : Type 0
ReplayTorn =
    (s : Store) (cs : List Commit) (x : Bytes) → open_desks s.desks ≡ 0 → all_fit s.hall cs ≡ true
    → Torn x → Replays s (journal cs ++ x) (replayed (length (journal cs))) cs

-- what may be wrong with a record that is wholly there, for the hall h, and its refusal: no mark, the body of no lawful
-- commit, no room
pub data Spoiled (h : Hall) : Bytes → ℕ → Type 0 where
  no_mark : (m x : Bytes) → length m ≡ length mark → (m ≡ mark → ⊥) → Spoiled h (m ++ x) 14
  no_body : (b x : Bytes) → length b < 256 ^ count_width → are_bytes b ≡ true
      → ((c : Commit) → is_lawful h.counter c ≡ true → dump_body c ≡ b → ⊥) → Spoiled h (framed b ++ x) 14
  no_room : (c : Commit) (x : Bytes) (n : ℕ) → is_lawful h.counter c ≡ true → fault (rooms h c.writes) ≡ suc n
      → Spoiled h (dump_commit c ++ x) (suc n)

-- it stops the replay at its offset; the commits before it stand
abbrev pub ReplaySpoiled : Type 0
ReplaySpoiled =
    (s : Store) (cs : List Commit) (x : Bytes) (n : ℕ) → open_desks s.desks ≡ 0 → all_fit s.hall cs ≡ true
    → Spoiled (with_commits s.hall cs) x n → Replays s (journal cs ++ x) (faulty n (length (journal cs))) cs

-- why a replay stops before x
pub data Stops (h : Hall) (x : Bytes) (at : ℕ) : Answer → Type 0 where
  torn : Torn x → Stops h x at (replayed at)
  spoiled : {n : ℕ} → Spoiled h x n → Stops h x at (faulty n at)

-- any bytes at all are a journal of commits that fit, which are done, and a rest that is torn or spoiled there
pub record Front (s : Store) (x : Bytes) : Type 0 where
  pub commits : List Commit
  pub rest : Bytes
  pub splits : x ≡ journal commits ++ rest
  pub fitting : all_fit s.hall commits ≡ true
  pub does : next s (replay x) ≡ record { hall = with_commits s.hall commits; desks = s.desks }
  pub ends : Stops (with_commits s.hall commits) rest (length (journal commits)) (answer s (replay x))

abbrev pub ReplayFront : Type 0
ReplayFront = (s : Store) (x : Bytes) → open_desks s.desks ≡ 0 → are_bytes x ≡ true → Front s x

-- ---- what a run commits, and what its commits write

abbrev pub commit_at : Option ℕ → Writes → List Commit
commit_at None ws = []
commit_at (Some n) ws = record { number = n; writes = ws } ∷ []

unfoldable pub commit_of : Store → Call → List Commit
commit_of s begin = []
commit_of s (on t a) = commit_at (commit_number (answer s (on t a))) (or_empty (writes_of t s.desks))
commit_of s (ask q) = []
commit_of s (sweep l) = []
commit_of s (thin l) = []
commit_of s (replay x) = []

unfoldable pub commits_of : Store → List Call → List Commit
commits_of s [] = []
commits_of s (c ∷ cs) = commit_of s c ++ commits_of (next s c) cs

-- the bytes that a commit hands back
unfoldable pub recorded_by : Store → Call → Bytes
recorded_by s begin = []
recorded_by s (on t (read k)) = []
recorded_by s (on t (put k v)) = []
recorded_by s (on t (delete k)) = []
recorded_by s (on t (commit_to j)) = (decide s (on t (commit_to j))).bytes
recorded_by s (on t abort) = []
recorded_by s (ask q) = []
recorded_by s (sweep l) = []
recorded_by s (thin l) = []
recorded_by s (replay x) = []

unfoldable pub journal_of : Store → List Call → Bytes
journal_of s [] = []
journal_of s (c ∷ cs) = recorded_by s c ++ journal_of (next s c) cs

-- every commit has a journal, and nothing is replayed
unfoldable pub is_journaled : Call → Bool
is_journaled begin = true
is_journaled (on t (read k)) = true
is_journaled (on t (put k v)) = true
is_journaled (on t (delete k)) = true
is_journaled (on t (commit_to j)) = is_some j
is_journaled (on t abort) = true
is_journaled (ask q) = true
is_journaled (sweep l) = true
is_journaled (thin l) = true
is_journaled (replay x) = false

unfoldable pub all_journaled : List Call → Bool
all_journaled [] = true
all_journaled (c ∷ cs) = is_journaled c && all_journaled cs

-- the number of the last commit, else n
unfoldable pub last_of : ℕ → List Commit → ℕ
last_of n [] = n
last_of n (c ∷ cs) = last_of c.number cs

-- ---- rebuilding

-- calls on any sound store, with transactions open or not, whose commits all have a journal
pub record Journaled (s : Store) (cs : List Call) : Type 0 where
  pub sound : sound s ≡ true
  pub calls : all_in_bytes cs ≡ true
  pub commits : all_journaled cs ≡ true

-- what a load of the store's dump gives in these sizes
abbrev pub reloaded : (key_rooms version_rooms desks : ℕ) → Store → Store
reloaded ks vs ds s =
    vacant (record {
      key_rooms = ks;
      version_rooms = vs;
      desk_count = ds;
      counter = s.hall.counter;
      floor = s.hall.counter;
      entries = s.hall.entries;
    })

abbrev pub ReloadedAs : Type 0
ReloadedAs =
    (s : Store) (ks vs ds : ℕ) → sound s ≡ true → sizes_fit ks vs ds ≡ true
    → length s.hall.entries ≤ ks → version_count s.hall.entries ≤ vs
    → created (load (dump_hall s.hall) ks vs ds) ≡ (done, Some (reloaded ks vs ds s))

-- and then a replay of the journal since
abbrev pub rebuilt : (key_rooms version_rooms desks : ℕ) → Store → List Call → Store
rebuilt ks vs ds s cs = next (reloaded ks vs ds s) (replay (journal_of s cs))

-- no record is refused for room; sweeps are not repeated, so the sizes may have to be larger
abbrev pub HasRoom : (key_rooms version_rooms desks : ℕ) → Store → List Call → Type 0
HasRoom ks vs ds s cs = is_full (answer (reloaded ks vs ds s) (replay (journal_of s cs))) ≡ false

-- each key has its whole history since the dump, and the counter is the number of the last commit
pub record Rebuilt (ks vs ds : ℕ) (s : Store) (cs : List Call) : Type 0 where
  pub answers : answer (reloaded ks vs ds s) (replay (journal_of s cs)) ≡ replayed (length (journal_of s cs))
  pub holds : (k : Bytes) → look k (rebuilt ks vs ds s cs).hall.entries ≡ history k s cs
  pub counter : (rebuilt ks vs ds s cs).hall.counter ≡ last_of s.hall.counter (commits_of s cs)
  pub floor : (rebuilt ks vs ds s cs).hall.floor ≡ s.hall.counter
  pub key_rooms : (rebuilt ks vs ds s cs).hall.key_rooms ≡ ks
  pub version_rooms : (rebuilt ks vs ds s cs).hall.version_rooms ≡ vs
  pub desk_count : (rebuilt ks vs ds s cs).hall.desk_count ≡ ds
  pub desks : (rebuilt ks vs ds s cs).desks ≡ (reloaded ks vs ds s).desks

abbrev pub JournalRebuilds : Type 0
JournalRebuilds =
    (s : Store) (cs : List Call) → Journaled s cs → (ks vs ds : ℕ) → HasRoom ks vs ds s cs → Rebuilt ks vs ds s cs

-- the same of a journal cut after any byte: the commits whose records are whole
abbrev pub JournalCut : Type 0
JournalCut =
    (s : Store) (cs : List Call) → Journaled s cs → (ks vs ds : ℕ) → HasRoom ks vs ds s cs → (n : ℕ)
    → Replays (reloaded ks vs ds s) (take n (journal_of s cs))
    (replayed (length (journal (whole_in n (commits_of s cs))))) (whole_in n (commits_of s cs))

-- swept as far as the run swept, it holds what the run held, in runs without sweeps between readers
abbrev pub RebuiltSwept : Type 0
RebuiltSwept =
    (s : Store) (cs : List Call) → Journaled s cs → (ks vs ds : ℕ) → HasRoom ks vs ds s cs
    → never_thins cs ≡ true → (k : Bytes)
    → look k (run s cs).hall.entries ≡ held (top_cutoff s cs) (look k (rebuilt ks vs ds s cs).hall.entries)

-- in any run: what an open start reads and clashes with, and the map from the floor on, are as the run has them
abbrev pub RebuiltShown : Type 0
RebuiltShown =
    (s : Store) (cs : List Call) → Journaled s cs → (ks vs ds : ℕ) → HasRoom ks vs ds s cs
    → (t : ℕ) → Open (run s cs) t ⊎ ((run s cs).hall.floor ≤ t) → (k : Bytes)
    → (value_of (visible t (look k (run s cs).hall.entries))
    ≡ value_of (visible t (look k (rebuilt ks vs ds s cs).hall.entries)))
    × (above t (newest_of (look k (run s cs).hall.entries))
    ≡ above t (newest_of (look k (rebuilt ks vs ds s cs).hall.entries)))
