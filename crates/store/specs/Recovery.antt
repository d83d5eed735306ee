-- The journal's promises (docs/RULES.md, 10.8) over the memories' bytes: what a commit writes into its journal, what a
-- replay does with any bytes, and that a dump and the journal since rebuild what was committed.
use Rattle.std.specs.Prelude.{ℕ, suc, ◌<◌, ◌≤◌, ◌≡◌, ◌⊎◌, true, false, cond, List, [], ◌∷◌, ◌++◌, length, take, replicate, Option, Some}
use Rattle.model.specs.Bytes.{Bytes, are_bytes}
use Rattle.model.specs.State.{free, Store, or_empty, look, visible, newest_of, value_of, version_count, writes_of, open_desks}
use Rattle.model.specs.Sound.{sizes_fit}
use Rattle.model.specs.Journal.{Commit, with_commits, dump_commit, journal}
use Rattle.model.specs.Calls.{commit, commit_to, dump, Call, begin, on, ask, sweep, thin, replay, Answer, refused, faulty, done, committed, dumped, replayed, refusal, above}
use Rattle.model.specs.Runs.{Creation, load}
use Rattle.model.specs.History.{history, top_cutoff, never_thins, is_full, is_commit}
use Rattle.model.specs.Demands.{held}
use Rattle.model.specs.Recovery.{all_fit, whole_in, Torn, Spoiled, Stops, commits_of, all_journaled, last_of, reloaded}
use Rattle.memory.specs.Spans.{overlay}
use Rattle.hall.specs.Layout.{hall_in, put_hall}
use Rattle.desk.specs.Layout.{desks_in}
use Rattle.answers.specs.declared.Recorded.{Recorded}
use Rattle.answers.specs.Paper.{paper_committed}
use Rattle.bridge.specs.Store.{store_in, answer_on, bytes_on, hall_after, desk_after, Sound, Memories, after_call}
use Rattle.bridge.specs.Clauses.{clashes_on, Recording}
use Rattle.bridge.specs.Creations.{are_long, created_on}
use Rattle.store.specs.Runs.{create_on, Step, call, create, steps_on, calls_of, Steps}
use Rattle.store.specs.Demands.{Open}

-- ---- what a commit writes into its journal

-- a refused commit, also for conflict, leaves its journal and tells no length
abbrev pub RefusedRecord : Type 0
RefusedRecord =
    (j : Option ℕ) (h d h' d' before after blank filled : Bytes) (t : ℕ) (r : Recorded) (n : ℕ)
    → Recording j h d h' d' before after blank filled t r
    → refusal (paper_committed (clashes_on j h d t) r.answer) ≡ suc n
    → (filled ≡ blank) × (r.length ≡ 0)

-- so does a commit without writes
abbrev pub EmptyRecord : Type 0
EmptyRecord =
    (j : Option ℕ) (h d h' d' before after blank filled : Bytes) (t : ℕ) (r : Recorded)
    → Recording j h d h' d' before after blank filled t r → or_empty (writes_of t (desks_in d)) ≡ []
    → (filled ≡ blank) × (r.length ≡ 0)

-- the writes of the transaction with start t in desk memory d, under a number
abbrev pub commit_under : (d : Bytes) → (t number : ℕ) → Commit
commit_under d t n = record { number = n; writes = or_empty (writes_of t (desks_in d)) }

-- "A commit with a journal writes one record, if it has writes, at the front of a lent output": that of the number
-- answered and the transaction's writes. It fits, what stands past it stays, and its length is told
abbrev pub RecordExact : Type 0
RecordExact =
    (h d h' d' before after blank filled : Bytes) (t n : ℕ) (r : Recorded)
    → Recording (Some (length blank)) h d h' d' before after blank filled t r
    → paper_committed (clashes_on (Some (length blank)) h d t) r.answer ≡ committed n
    → (filled ≡ overlay (dump_commit (commit_under d t n)) blank)
    × (r.length ≡ length (dump_commit (commit_under d t n)))
    × (length (dump_commit (commit_under d t n)) ≤ length blank)

-- "Output too short is 12, after 11": exactly if the commit would be done without a journal and its record does not fit
abbrev pub ShortExact : Type 0
ShortExact =
    (h d : Bytes) (t room : ℕ)
    → (refusal (answer_on h d (on t (commit_to (Some room)))) ≡ 12
    → (n : ℕ) × (answer_on h d (on t commit) ≡ committed n) × (room < length (dump_commit (commit_under d t n))))
    × ((n : ℕ) → answer_on h d (on t commit) ≡ committed n → room < length (dump_commit (commit_under d t n))
    → answer_on h d (on t (commit_to (Some room))) ≡ refused 12)

-- else the journal changes nothing: the answer and both memories are those of the commit without one
abbrev pub JournalAside : Type 0
JournalAside =
    (h d : Bytes) (t room : ℕ) → (refusal (answer_on h d (on t (commit_to (Some room)))) ≡ 12 → ⊥)
    → (answer_on h d (on t (commit_to (Some room))) ≡ answer_on h d (on t commit))
    × (hall_after h d (on t (commit_to (Some room))) ≡ hall_after h d (on t commit))
    × (desk_after h d (on t (commit_to (Some room))) ≡ desk_after h d (on t commit))

-- ---- replays, on any two sound memories

-- a replay of x answers a and does the commits cs, and no more; desk memory is as it was
abbrev pub Replays : (h d : Bytes) → Bytes → Answer → List Commit → Type 0
Replays h d x a cs =
    (answer_on h d (replay x) ≡ a) × (hall_after h d (replay x) ≡ put_hall h (with_commits (hall_in h) cs))
    × (desk_after h d (replay x) ≡ d)

-- beside an open desk nothing is looked at and nothing done
abbrev pub ReplayOpen : Type 0
ReplayOpen =
    (h d : Bytes) → Sound h d → (x : Bytes) → (open_desks (desks_in d) ≡ 0 → ⊥)
    → (answer_on h d (replay x) ≡ refused 17) × (hall_after h d (replay x) ≡ h) × (desk_after h d (replay x) ≡ d)

-- a whole journal: each of its commits in turn
abbrev pub ReplayWhole : Type 0
ReplayWhole =
    (h d : Bytes) → Sound h d → open_desks (desks_in d) ≡ 0 → (cs : List Commit) → all_fit (hall_in h) cs ≡ true
    → Replays h d (journal cs) (replayed (length (journal cs))) cs

-- cut after any byte: those that are whole, and where they end
abbrev pub ReplayCut : Type 0
ReplayCut =
    (h d : Bytes) → Sound h d → open_desks (desks_in d) ≡ 0 → (cs : List Commit) → all_fit (hall_in h) cs ≡ true
    → (n : ℕ) → Replays h d (take n (journal cs)) (replayed (length (journal (whole_in n cs)))) (whole_in n cs)

-- anything cut off behind whole records is left out
abbrev pub ReplayTorn : Type 0
ReplayTorn =
    (h d : Bytes) → Sound h d → open_desks (desks_in d) ≡ 0 → (cs : List Commit) → all_fit (hall_in h) cs ≡ true
    → (x : Bytes) → Torn x → Replays h d (journal cs ++ x) (replayed (length (journal cs))) cs

-- a spoiled record stops the replay at its offset; the commits before it stand
abbrev pub ReplaySpoiled : Type 0
ReplaySpoiled =
    (h d : Bytes) → Sound h d → open_desks (desks_in d) ≡ 0 → (cs : List Commit) → all_fit (hall_in h) cs ≡ true
    → (x : Bytes) (n : ℕ) → Spoiled (with_commits (hall_in h) cs) x n
    → Replays h d (journal cs ++ x) (faulty n (length (journal cs))) cs

-- any bytes at all are a journal of commits that fit, which are done, and a rest that is torn or spoiled there
pub record Front (h d x : Bytes) : Type 0 where
  pub commits : List Commit
  pub rest : Bytes
  pub splits : x ≡ journal commits ++ rest
  pub fitting : all_fit (hall_in h) commits ≡ true
  pub does : Replays h d x (answer_on h d (replay x)) commits
  pub ends : Stops (with_commits (hall_in h) commits) rest (length (journal commits)) (answer_on h d (replay x))

abbrev pub ReplayFront : Type 0
ReplayFront = (h d : Bytes) → Sound h d → open_desks (desks_in d) ≡ 0 → (x : Bytes) → are_bytes x ≡ true → Front h d x

-- ---- the journal of steps

-- what a caller keeps of a call: of a commit the bytes that it hands back
unfoldable pub recorded_on : (h d : Bytes) → Call → Bytes
recorded_on h d begin = []
recorded_on h d (on t a) = cond (is_commit a) (bytes_on h d (on t a)) []
recorded_on h d (ask q) = []
recorded_on h d (sweep l) = []
recorded_on h d (thin l) = []
recorded_on h d (replay x) = []

-- and of the steps, one after the other
unfoldable pub journal_on : Memories → List Step → Bytes
journal_on m [] = []
journal_on m (call c ∷ xs) = recorded_on m.hall m.desk c ++ journal_on (after_call m c) xs
journal_on m (create o ∷ xs) = journal_on (create_on m o) xs

-- it is what stands at the front of a commit's journal, as far as the length that is told
abbrev pub RecordKept : Type 0
RecordKept =
    (j : Option ℕ) (h d h' d' before after blank filled : Bytes) (t : ℕ) (r : Recorded)
    → Recording j h d h' d' before after blank filled t r → take r.length filled ≡ recorded_on h d (on t (commit_to j))

-- ---- rebuilding

-- the bytes that a dump of hall memory h hands out, loaded into any sizes
abbrev pub reload_as : (h : Bytes) → (room key_rooms version_rooms desks : ℕ) → Creation
reload_as h room ks vs ds = load (bytes_on h [] (ask (dump room))) ks vs ds

-- a dump loads into any sizes that have room, in any memories that are long enough
abbrev pub ReloadedAs : Type 0
ReloadedAs =
    (h d : Bytes) (room size : ℕ) → answer_on h [] (ask (dump room)) ≡ dumped size
    → (ks vs ds : ℕ) → sizes_fit ks vs ds ≡ true
    → length (hall_in h).entries ≤ ks → version_count (hall_in h).entries ≤ vs
    → (n : Memories) → are_long n.hall n.desk ks vs ds ≡ true
    → created_on n.hall n.desk (reload_as h room ks vs ds) ≡ (done, Some (reloaded ks vs ds (store_in h d)))

-- what a power failure leaves: of any sound memories m, with transactions open or not, a dump was handed out, and the
-- steps xs followed, whose commits all have a journal; the dump is then loaded into any memories n
pub record Reloaded (m : Memories) (xs : List Step) (n : Memories) (room ks vs ds : ℕ) : Type 0 where
  pub sound : Sound m.hall m.desk
  pub size : ℕ
  pub dumps : answer_on m.hall [] (ask (dump room)) ≡ dumped size
  pub steps : Steps m xs
  pub commits : all_journaled (calls_of xs) ≡ true
  pub loads : (created_on n.hall n.desk (reload_as m.hall room ks vs ds)).0 ≡ done

-- the memories that the load leaves
abbrev pub loaded_on : (m n : Memories) → (room key_rooms version_rooms desks : ℕ) → Memories
loaded_on m n room ks vs ds = create_on n (reload_as m.hall room ks vs ds)

-- there the replay of the steps' journal is not refused for room; sweeps are not repeated, so the sizes may have to be
-- larger
abbrev pub HasRoom : (m : Memories) → List Step → (n : Memories) → Type 0
HasRoom m xs n = is_full (answer_on n.hall n.desk (replay (journal_on m xs))) ≡ false

-- the store that m says, and the memories that the replay leaves
abbrev pub store_on : Memories → Store
store_on m = store_in m.hall m.desk

abbrev pub rebuilt_on : (m : Memories) → List Step → (n : Memories) → Memories
rebuilt_on m xs n = after_call n (replay (journal_on m xs))

-- each key has its whole history since the dump, and the counter is the number of the last commit
pub record Rebuilt (m : Memories) (xs : List Step) (n : Memories) (ks vs ds : ℕ) : Type 0 where
  pub answers : answer_on n.hall n.desk (replay (journal_on m xs)) ≡ replayed (length (journal_on m xs))
  pub sound : Sound (rebuilt_on m xs n).hall (rebuilt_on m xs n).desk
  pub holds : (k : Bytes) → look k (hall_in (rebuilt_on m xs n).hall).entries ≡ history k (store_on m) (calls_of xs)
  pub counter : (hall_in (rebuilt_on m xs n).hall).counter
      ≡ last_of (hall_in m.hall).counter (commits_of (store_on m) (calls_of xs))
  pub floor : (hall_in (rebuilt_on m xs n).hall).floor ≡ (hall_in m.hall).counter
  pub key_rooms : (hall_in (rebuilt_on m xs n).hall).key_rooms ≡ ks
  pub version_rooms : (hall_in (rebuilt_on m xs n).hall).version_rooms ≡ vs
  pub desk_count : (hall_in (rebuilt_on m xs n).hall).desk_count ≡ ds
  pub desks : desks_in (rebuilt_on m xs n).desk ≡ replicate ds free

abbrev pub JournalRebuilds : Type 0
JournalRebuilds =
    (m : Memories) (xs : List Step) (n : Memories) (room ks vs ds : ℕ) → Reloaded m xs n room ks vs ds
    → HasRoom m xs (loaded_on m n room ks vs ds) → Rebuilt m xs (loaded_on m n room ks vs ds) ks vs ds

-- the same of a journal cut after any byte: the commits whose records are whole
abbrev pub JournalCut : Type 0
JournalCut =
    (m : Memories) (xs : List Step) (n : Memories) (room ks vs ds : ℕ) → Reloaded m xs n room ks vs ds
    → HasRoom m xs (loaded_on m n room ks vs ds) → (i : ℕ)
    → Replays (loaded_on m n room ks vs ds).hall (loaded_on m n room ks vs ds).desk (take i (journal_on m xs))
    (replayed (length (journal (whole_in i (commits_of (store_on m) (calls_of xs))))))
    (whole_in i (commits_of (store_on m) (calls_of xs)))

-- swept as far as the steps swept, it holds what they left, if no sweep was between readers
abbrev pub RebuiltSwept : Type 0
RebuiltSwept =
    (m : Memories) (xs : List Step) (n : Memories) (room ks vs ds : ℕ) → Reloaded m xs n room ks vs ds
    → HasRoom m xs (loaded_on m n room ks vs ds) → never_thins (calls_of xs) ≡ true → (k : Bytes)
    → look k (hall_in (steps_on m xs).hall).entries
    ≡ held (top_cutoff (store_on m) (calls_of xs))
    (look k (hall_in (rebuilt_on m xs (loaded_on m n room ks vs ds)).hall).entries)

-- in any case: what a start that is open after the steps reads and clashes with, and the map from the floor on, are as
-- the steps left them
abbrev pub RebuiltShown : Type 0
RebuiltShown =
    (m : Memories) (xs : List Step) (n : Memories) (room ks vs ds : ℕ) → Reloaded m xs n room ks vs ds
    → HasRoom m xs (loaded_on m n room ks vs ds)
    → (t : ℕ) → Open (steps_on m xs) t ⊎ ((hall_in (steps_on m xs).hall).floor ≤ t) → (k : Bytes)
    → (value_of (visible t (look k (hall_in (steps_on m xs).hall).entries))
    ≡ value_of (visible t (look k (hall_in (rebuilt_on m xs (loaded_on m n room ks vs ds)).hall).entries)))
    × (above t (newest_of (look k (hall_in (steps_on m xs).hall).entries))
    ≡ above t (newest_of (look k (hall_in (rebuilt_on m xs (loaded_on m n room ks vs ds)).hall).entries)))
