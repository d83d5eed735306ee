-- A version of hall memory, of which it is asked whether it goes.
use Rattle.std.specs.Prelude.{ℕ, suc, ◌≤◌, ◌<◌, List, [], ◌∷◌, length}
use Rattle.model.specs.Bytes.{Bytes}
use Rattle.model.specs.State.{Version}
use Rattle.hall.specs.Layout.{versions_in}
use Rattle.hall.specs.Tables.{Shaped, version_at, between}
use Rattle.hall_rule.specs.Readers.{Upward, IsClear}

-- version j is an older one of key i; these end before place `to`
pub record Older (m : Bytes) (i j to : ℕ) : Type 0 where
  pub shaped : Shaped m
  pub newest : i < j
  pub inside : j < to
  pub fits : to ≤ length (versions_in m)

-- the successor of a version: the first of the older ones after it, or the newest
unfoldable pub successor : (olders : List Version) → (newest : Version) → Version
successor [] n = n
successor (v ∷ vs) n = v

-- that of version j
abbrev pub successor_of : Bytes → (i j to : ℕ) → Version
successor_of m i j to = successor (between (suc j) to (versions_in m)) (version_at i (versions_in m))

-- version j is there, the readers ts ascend, and from it on all is clear up to h
pub record Reaching (m : Bytes) (j h c : ℕ) (ts : List ℕ) : Type 0 where
  pub shaped : Shaped m
  pub below : j < length (versions_in m)
  pub upward : Upward 0 ts
  pub clear : IsClear c ts (version_at j (versions_in m)) h
