-- Steps in a memory that holds tables, one table at a time; and what a write's cells hold.
-- Assumes nothing.
use mathlib.Core.Path.{◌≡◌, ap}
use mathlib.Core.List.{List}
use Prim.Native.Nat.{ℕ, zero, suc, ◌^◌, ◌≤◌, ◌<◌}
use native.Mathlib.Omega.{arith}
use lib.ListN.{length}
use Rattle.model.specs.Sizes.{count_width}
use Rattle.model.specs.Bytes.{Bytes}
use Rattle.model.specs.State.{Version}
use Rattle.memory.proofs.Laws.Each.{each_at}
use Rattle.hall.specs.Layout.{Row, keys_in, versions_in}
use Rattle.hall.specs.Tables.{GoodRow, Shaped, no_row, end_before}
use Rattle.hall_rows.specs.Held.{Holds}
use Rattle.hall_rows.proofs.Laws.Held.{holds_as, holds_keys, holds_versions, holds_then}

module _ (m : Bytes) (s : Shaped m) where
  module _ {rs : List Row} {vs : List Version} {m₁ : Bytes} (h : Holds m rs vs m₁) where
    pub keys_then : (f : List Row → List Row) {m₂ : Bytes} → Holds m₁ (f (keys_in m₁)) (versions_in m₁) m₂ → Holds m (f rs) vs m₂
    keys_then f k = holds_as (ap f (holds_keys m s h)) (holds_versions m s h) (holds_then m s h k)

    pub versions_then : (f : List Version → List Version) {m₂ : Bytes} → Holds m₁ (keys_in m₁) (f (versions_in m₁)) m₂ → Holds m rs (f vs) m₂
    versions_then f k = holds_as (holds_keys m s h) (ap f (holds_versions m s h)) (holds_then m s h k)

  pub end_low : (p : ℕ) {e : ℕ} → p ≤ length (keys_in m) → e ≡ end_before 0 p (keys_in m) → e < 256 ^ count_width
  unfolding end_before
  end_low zero h e = omega arith
  end_low (suc p) h e = omega (arith, (each_at GoodRow (keys_in m) p no_row s.good.keys h).low)
