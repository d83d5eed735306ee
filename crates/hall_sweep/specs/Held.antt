-- Hall memory in the course of the pass over the keys, and after the whole sweep.
use Rattle.std.specs.Prelude.{ℕ, suc, ◌+◌, ◌-◌, ◌≤◌, ◌≡◌, List, ◌++◌, length, drop}
use Rattle.std.proofs.lemmas.List.Edits.{sets}
use Rattle.model.specs.Bytes.{Bytes}
use Rattle.model.specs.State.{Version, version_count, with_entries}
use Rattle.model.specs.Sweeps.{Rule, goes, trim_all}
use Rattle.hall.specs.Layout.{keys_in, versions_in, hall_in, put_hall}
use Rattle.hall.specs.Tables.{Shaped, between}
use Rattle.hall_rows.specs.Held.{Holds}
use Rattle.hall_moves.specs.Moves.{rows_between}
use Rattle.hall_sweep.specs.Staying.{staying, staying_from}

-- ---- n key rows, and as many newest versions in step with them

pub record RowsFit (m : Bytes) (n : ℕ) : Type 0 where
  pub shaped : Shaped m
  pub count : n ≡ length (keys_in m)
  pub fits : n ≤ length (versions_in m)

-- those from i up to k stay, and row k goes if there is one
pub record RowRun (g : Rule) (m : Bytes) (i n k : ℕ) : Type 0 where
  pub start : i ≤ k
  pub end : k ≤ n
  pub keys : staying_from g i n (versions_in m) (keys_in m)
      ≡ rows_between i k (keys_in m) ++ staying_from g (suc k) n (versions_in m) (keys_in m)
  pub newest : staying_from g i n (versions_in m) (versions_in m)
      ≡ between i k (versions_in m) ++ staying_from g (suc k) n (versions_in m) (versions_in m)

-- rows i up to k can be stored from row w on
pub record RunFits (m : Bytes) (i k w : ℕ) : Type 0 where
  pub rows : RowsFit m (length (keys_in m))
  pub low : w ≤ i
  pub start : i ≤ k
  pub end : k ≤ length (keys_in m)

-- m₁ is the memory m with that done, and r is the row after them
pub record RunStored (m : Bytes) (i k w : ℕ) (m₁ : Bytes) (r : ℕ) : Type 0 where
  pub place : r ≡ w + (k - i)
  pub holds : Holds m (sets (keys_in m) w (rows_between i k (keys_in m)))
      (sets (versions_in m) w (between i k (versions_in m))) m₁

-- m₁ is the memory m with the r rows that stay in front
pub record RowsKept (g : Rule) (m : Bytes) (n : ℕ) (m₁ : Bytes) (r : ℕ) : Type 0 where
  pub few : r ≤ n
  pub keys : length (staying g n (versions_in m) (keys_in m)) ≡ r
  pub newest : length (staying g n (versions_in m) (versions_in m)) ≡ r
  pub holds : Holds m (sets (keys_in m) 0 (staying g n (versions_in m) (keys_in m)))
      (sets (versions_in m) 0 (staying g n (versions_in m) (versions_in m))) m₁

-- the version rows of those that stay, then the older versions
abbrev pub closed_versions : Rule → (n : ℕ) → List Version → List Version
closed_versions g n vs = staying g n vs vs ++ drop n vs

-- m₁ is the memory m with no other rows, and r versions are left
pub record Closed (g : Rule) (m m₁ : Bytes) (r : ℕ) : Type 0 where
  pub left : r ≡ length (closed_versions g (length (keys_in m)) (versions_in m))
  pub holds : Holds m (staying g (length (keys_in m)) (versions_in m) (keys_in m))
      (closed_versions g (length (keys_in m)) (versions_in m)) m₁

-- ---- the whole sweep

-- m₁ is the memory m swept up to c, sparing the readers ts, and r versions are left
pub record Swept (m : Bytes) (c : ℕ) (ts : List ℕ) (m₁ : Bytes) (r : ℕ) : Type 0 where
  pub left : r ≡ version_count (trim_all (goes c ts) (hall_in m).entries)
  pub hall : m₁ ≡ put_hall m (with_entries (hall_in m) (hall_in m).counter (trim_all (goes c ts) (hall_in m).entries))
