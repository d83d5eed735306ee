-- What is found of a record of the journal: where its parts end, and whether it is cut, spoiled or whole.
use Rattle.std.specs.Prelude.{ℕ, suc, ◌+◌, ◌≤◌, ◌≡◌, Bool, true, ◌&&◌, ◌++◌, cond, leb, eqb, length, take, drop, Option, None, Some}
use Rattle.model.specs.Sizes.{max_writes, last_number}
use Rattle.model.specs.Bytes.{Bytes, part}
use Rattle.model.specs.Load.{Parsed, got, bad}
use Rattle.model.specs.Journal.{Commit, dump_body, dump_commit, read_commit}
use Rattle.model.specs.Recovery.{is_lawful}
use Rattle.journal_fields.specs.Places.{frame_width}
use Rattle.dump_fields.specs.Machine.{said, width_of, fault_of}
use Rattle.dump_fields.specs.declared.machine.Phase.{Phase}
use Rattle.dump_fields.specs.declared.machine.Loader.{Loader}
use Rattle.journal_check.specs.declared.Judged.{Judged}
use Rattle.journal_check.specs.declared.Judged.TheVariants.{Cut, Spoiled, Whole}

-- ---- fields

-- x begins with a whole field of the dump that has no fault
unfoldable pub passed : Phase → Loader → (last x : Bytes) → Bool
passed p s last x =
    leb (width_of p) (length x) && eqb (fault_of p s (said (take (width_of p) x)) last (take (width_of p) x)) 0

-- what a number and a count of writes may be, as the dump's machine knows it of a version's number and a version count
abbrev pub limits_of : (counter : ℕ) → Loader
limits_of c = record { next = suc last_number; keys = 0; rooms = max_writes; versions = 0; last = c }

-- ---- ends

-- the offset after what was read
abbrev pub end_of : {A : Type 0} → Parsed A → Option ℕ
end_of (got a p y) = Some p
end_of (bad n p) = None

-- that of a whole field at `at` that has no fault
abbrev pub end_of_field : (at : ℕ) → Phase → Loader → (last x : Bytes) → Option ℕ
end_of_field at p s last x = cond (passed p s last x) (Some (at + width_of p)) None

-- ---- a record

-- the record at `at` is that of a lawful commit, and its body has n bytes
pub record IsWhole (counter : ℕ) (x : Bytes) (at n : ℕ) : Type 0 where
  pub commit : Commit
  pub lawful : is_lawful counter commit ≡ true
  pub body : part x (at + frame_width) n ≡ dump_body commit
  pub bytes : drop at x ≡ dump_commit commit ++ drop (at + frame_width + n) x
  pub inside : at + frame_width + n ≤ length x

-- what is judged of the record at `at`, whatever the rooms are
abbrev pub Judges : (counter : ℕ) (x : Bytes) (at : ℕ) → Judged → Type 0
Judges counter x at Cut = (full : Commit → ℕ) → read_commit counter full at (drop at x) ≡ bad 13 at
Judges counter x at Spoiled = (full : Commit → ℕ) → read_commit counter full at (drop at x) ≡ bad 14 at
Judges counter x at (Whole n) = IsWhole counter x at n
