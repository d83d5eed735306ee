-- Hall memory in the course of the pass over the older versions, and after it.
use Rattle.std.specs.Prelude.{ℕ, suc, ◌+◌, ◌≤◌, ◌<◌, ◌≡◌, List, ◌++◌, length}
use Rattle.std.proofs.lemmas.List.Edits.{sets}
use Rattle.model.specs.Bytes.{Bytes}
use Rattle.model.specs.State.{Version}
use Rattle.model.specs.Sweeps.{Rule}
use Rattle.hall.specs.Layout.{rows_of, versions_of, keys_in, versions_in, hall_in}
use Rattle.hall.specs.Tables.{Shaped, version_at, between, set_end}
use Rattle.hall_rows.specs.Held.{Holds}
use Rattle.hall_rule.specs.Readers.{Readers}
use Rattle.hall_rule.specs.Older.{Older, successor_of}
use Rattle.hall_trim.specs.Trim.{kept, trim_olders}

-- ---- the older versions of key i, which end before place `to`

-- all from version j on, if there are any
pub record OldersFrom (m : Bytes) (i j to : ℕ) : Type 0 where
  pub shaped : Shaped m
  pub newest : i < j
  pub end : j ≤ to
  pub fits : to ≤ length (versions_in m)

-- the numbers from version j up to `to` ascend
abbrev pub Rises : Bytes → (j to : ℕ) → Type 0
Rises m j to =
    (a : ℕ) → j ≤ a → suc a < to → (version_at a (versions_in m)).number ≤ (version_at (suc a) (versions_in m)).number

-- from version j on it can be told what goes up to c, sparing the readers ts; up to k all is clear
pub record Telling (m : Bytes) (i j to c k : ℕ) (ts : List ℕ) : Type 0 where
  pub older : Older m i j to
  pub rises : Rises m j to
  pub readers : Readers c k ts

-- what is left of them from version j on can be stored from place w on
pub record OldersFit (m : Bytes) (i j to w : ℕ) : Type 0 where
  pub shaped : Shaped m
  pub newest : i < w
  pub low : w ≤ j
  pub fits : to ≤ length (versions_in m)
  pub rises : Rises m j to

-- the successors of those from j up to k are at or below h
pub record Near (m : Bytes) (i j to h k : ℕ) : Type 0 where
  pub start : j ≤ k
  pub end : k ≤ to
  pub each : (a : ℕ) → j ≤ a → a < k → (successor_of m i a to).number ≤ h

-- what a rule leaves of them from version j on
abbrev pub kept_of : Rule → Bytes → (i j to : ℕ) → List Version
kept_of r m i j to = kept r (between j to (versions_in m)) (version_at i (versions_in m))

-- those from j up to k go
pub record Gone (rule : Rule) (m : Bytes) (i j to k : ℕ) : Type 0 where
  pub start : j ≤ k
  pub end : k ≤ to
  pub same : kept_of rule m i j to ≡ kept_of rule m i k to

-- those from j up to k stay, and version k goes if there is one
pub record Run (rule : Rule) (m : Bytes) (i j to k : ℕ) : Type 0 where
  pub start : j ≤ k
  pub end : k ≤ to
  pub stay : kept_of rule m i j to ≡ between j k (versions_in m) ++ kept_of rule m i (suc k) to

-- ---- key i, whose older versions are those from end `from` up to end `to`

-- what is left of them can be stored from end w on
pub record KeyFits (m : Bytes) (i from to w : ℕ) : Type 0 where
  pub shaped : Shaped m
  pub row : i < length (keys_in m)
  pub low : w ≤ from
  pub rise : from ≤ to
  pub fits : length (keys_in m) + to ≤ length (versions_in m)
  pub rises : Rises m (length (keys_in m) + from) (length (keys_in m) + to)

-- key i of n can be swept up to c, sparing the readers ts; up to k all is clear
pub record KeySweepable (m : Bytes) (n i from to w c k : ℕ) (ts : List ℕ) : Type 0 where
  pub fits : KeyFits m i from to w
  pub count : n ≡ length (keys_in m)
  pub readers : Readers c k ts

abbrev pub kept_of_key : Rule → Bytes → (i from to : ℕ) → List Version
kept_of_key r m i from to = kept_of r m i (length (keys_in m) + from) (length (keys_in m) + to)

-- m₁ is the memory m with that done, and r is the new end of key i
pub record KeySwept (rule : Rule) (m : Bytes) (i from to w : ℕ) (m₁ : Bytes) (r : ℕ) : Type 0 where
  pub end : r ≡ w + length (kept_of_key rule m i from to)
  pub holds : Holds m (set_end i r (keys_in m))
      (sets (versions_in m) (length (keys_in m) + w) (kept_of_key rule m i from to)) m₁

-- ---- all keys

-- m₁ is the sound memory m with what the rule leaves of older versions
abbrev pub Trimmed : Rule → (m m₁ : Bytes) → Type 0
Trimmed g m m₁ =
    Holds m (rows_of 0 (trim_olders g (hall_in m).entries)) (versions_of (trim_olders g (hall_in m).entries)) m₁
