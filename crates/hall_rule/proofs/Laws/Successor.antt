-- The number of the version after an older one.
-- Assumes nothing.
use mathlib.Core.Path.{◌≡◌, ◌∙◌}
use Prim.Native.Nat.{ℕ, suc, ◌+◌, ◌≤◌, ◌<◌}
use native.Mathlib.Numerals.{add-one}
use native.Mathlib.Omega.{arith}
use Rattle.model.specs.Bytes.{Bytes}
use Rattle.hall.specs.Layout.{versions_in}
use Rattle.hall.specs.Tables.{version_at}
use Rattle.hall.proofs.Laws.Chains.{between_none, between_cons}
use Rattle.hall_rule.specs.Older.{Older, successor, successor_of}

module _ (m : Bytes) (i j to : ℕ) (o : Older m i j to) {x : ℕ} where
  pub next_older : j + 1 < to → x ≡ (version_at (j + 1) (versions_in m)).number → x ≡ (successor_of m i j to).number
  unfolding successor
  next_older h e = e ∙ rw (add-one j, between_cons (suc j) to (versions_in m) (omega arith) o.fits)

  pub next_newest : to ≤ j + 1 → x ≡ (version_at i (versions_in m)).number → x ≡ (successor_of m i j to).number
  unfolding successor
  next_newest h e = e ∙ rw (between_none (suc j) to (versions_in m) (omega arith))
