-- Which version of a key is seen.
use Rattle.std.specs.Prelude.{ℕ, zero, suc, ◌+◌, ◌-◌, ◌≤◌, cond, List, leb, length, Option, None, Some}
use Rattle.model.specs.Bytes.{Bytes}
use Rattle.model.specs.State.{Version}
use Rattle.hall.specs.Layout.{Row, versions_in}
use Rattle.hall.specs.Tables.{Shaped, row_at, version_at, end_before}

-- m has the versions from place `from` up to `to`
pub record RunIn (m : Bytes) (from to : ℕ) : Type 0 where
  pub shaped : Shaped m
  pub start : from ≤ to
  pub end : to ≤ length (versions_in m)

-- the last of the n versions from `lo` on that is numbered at most t
unfoldable pub seen_from : (t lo n : ℕ) → List Version → Option ℕ
seen_from t lo zero vs = None
seen_from t lo (suc n) vs = cond (leb (version_at (lo + n) vs).number t) (Some (lo + n)) (seen_from t lo n vs)

-- of the versions of key row i: the newest, or one of the older ones
abbrev pub seen_of : (t i : ℕ) → List Row → List Version → Option ℕ
seen_of t i rs vs =
    cond (leb (version_at i vs).number t) (Some i)
    (seen_from t (length rs + end_before 0 i rs) ((row_at i rs).end - end_before 0 i rs) vs)

-- the version that is seen
abbrev pub version_seen : Option ℕ → List Version → Option Version
version_seen (Some j) vs = Some (version_at j vs)
version_seen None vs = None
