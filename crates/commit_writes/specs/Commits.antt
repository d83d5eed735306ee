-- What a commit of two memories answers and leaves in them.
use Rattle.std.specs.Prelude.{ℕ, ◌≡◌, Bool, true, false, [], length, Option, None, Some}
use Rattle.model.specs.Bytes.{Bytes}
use Rattle.model.specs.State.{written_keys}
use Rattle.model.specs.Journal.{Commit}
use Rattle.model.specs.Calls.{Outcome, clashes, clashes_of, record_of, is_short, settle, apply}
use Rattle.answers.specs.declared.Committed.{Committed}
use Rattle.answers.specs.declared.Recorded.{Recorded}
use Rattle.answers.specs.Paper.{paper_committed, Counts}
use Rattle.hall.specs.Layout.{hall_in, put_hall}
use Rattle.desk.specs.Layout.{desks_in, put_desks}
use Rattle.desk.specs.Shape.{desk_of}
use Rattle.hall_sought.specs.Sought.{writes_in}
use Rattle.dump_write.specs.Over.{Wrote}
use Rattle.bridge.specs.Store.{store_in, Sound}
use Rattle.commit_writes.specs.declared.Kept.{Kept}
use Rattle.commit_writes.specs.declared.Kept.TheVariants.{Record, Short}

-- the length of the journal, if one is kept
unfoldable pub room_in : (keeping : Bool) (journal : Bytes) → Option ℕ
room_in false x = None
room_in true x = Some (length x)

-- the model's commit of the writes of desk k
abbrev pub settle_at : (j : Option ℕ) (h d : Bytes) (k t : ℕ) → Outcome
settle_at j h d k t = settle (hall_in h) j t (writes_in d k) (clashes t (written_keys (writes_in d k)) (hall_in h))

-- what desk k commits under number n
abbrev pub commit_at : (d : Bytes) (k n : ℕ) → Commit
commit_at d k n = record { number = n; writes = writes_in d k }

-- two sound memories, where desk k is open with start t
pub record OpenDesk (h d : Bytes) (k t : ℕ) : Type 0 where
  pub sound : Sound h d
  pub at : desk_of t (desks_in d) ≡ Some k

-- it has writes, and no version stands in their way
pub record Unopposed (h d : Bytes) (k t : ℕ) : Type 0 where
  pub desk : OpenDesk h d k t
  pub writes : length (writes_in d k) ≡ 0 → ⊥
  pub clear : clashes t (written_keys (writes_in d k)) (hall_in h) ≡ []

-- r and the memories h' and d', which h and d became, are what the outcome o says of them
pub record Settled (h d h' d' : Bytes) (o : Outcome) (r : Committed) : Type 0 where
  pub answer : paper_committed (clashes_of o.answer) r ≡ o.answer
  pub count : Counts (clashes_of o.answer) r
  pub hall : h' ≡ put_hall h (apply (store_in h d) o.effect).hall
  pub desk : d' ≡ put_desks d (apply (store_in h d) o.effect).desks

-- what became of the record of the commit c in a journal, if one is kept: `blank` became `filled`
abbrev pub Keeps : (j : Option ℕ) → (c : Commit) → (blank filled : Bytes) → Kept → Type 0
Keeps j c blank filled (Record n) = (is_short j c ≡ false) × Wrote (record_of j c) blank filled n
Keeps j c blank filled Short = (is_short j c ≡ true) × (filled ≡ blank)

-- the same of the outcome o of a commit, which may write no record
pub record Ended (h d h' d' blank filled : Bytes) (o : Outcome) (r : Recorded) : Type 0 where
  pub settled : Settled h d h' d' o r.answer
  pub kept : Wrote o.bytes blank filled r.length
