-- The stores of a sweep: runs of rows.
-- Assumes nothing.
use mathlib.Core.Path.{◌≡◌, sym, ◌∙◌}
use mathlib.Core.List.{List, ◌++◌}
use Prim.Native.Nat.{ℕ, ◌+◌, ◌-◌, ◌*◌, ◌≤◌}
use native.Mathlib.Omega.{arith}
use lib.ListN.{length, drop, length-append, length-take, length-drop}
use lib.Seq.{sets}
use Rattle.model.specs.Bytes.{Bytes, part}
use Rattle.model.specs.State.{Version}
use Rattle.memory.proofs.Laws.Parts.{sets_append, sets_self}
use Rattle.memory.proofs.Laws.Each.{each_take, each_drop}
use Rattle.hall.specs.Layout.{head_size, row_width, version_width, version_base, version_place, Row, row_bytes, version_bytes, key_rooms_in, keys_in, versions_in}
use Rattle.hall.specs.Tables.{GoodRow, GoodVersion, Shaped, between}
use Rattle.hall.proofs.Laws.Chains.{between_none}
use Rattle.hall.proofs.Laws.Puts.{key_rows_lem, version_rows_lem}
use Rattle.hall_rows.proofs.Laws.Held.{holds_same, holds_as, holds_keys, holds_versions, holds_then}
use Rattle.hall_rows.proofs.Laws.Runs.{run_bytes, key_run_lem, version_run}
use Rattle.hall_moves.specs.Moves.{Stored, rows_between}
use Rattle.hall_rows.specs.Held.{Holds}

-- a run stored, and another right after it
pub stored_then : (m : Bytes) → Shaped m → (w : ℕ) (xs ys : List Version) {m₁ m₂ : Bytes} {w₁ w₂ : ℕ}
    → Stored m w xs m₁ w₁ → Stored m₁ w₁ ys m₂ w₂ → Stored m w (xs ++ ys) m₂ w₂
stored_then m s w xs ys {m₁} {m₂} {w₁} a b =
    let v : List Version = versions_in m in
    let p : sets (versions_in m₁) w₁ ys ≡ sets v w (xs ++ ys) = rw (holds_versions m s a.holds, a.place) (sym (sets_append v w xs ys)) in
    record {
      place = omega (arith, a.place, b.place, length-append xs ys);
      holds = holds_as (holds_keys m s a.holds) p (holds_then m s a.holds b.holds);
    }

-- ---- the stores of each step

module _ (m : Bytes) (s : Shaped m) where
  abbrev vs : List Version
  vs = versions_in m

  abbrev base : ℕ
  base = version_base (key_rooms_in m)

  module _ (j k w : ℕ) (i : w ≤ j) (h : j ≤ k) (l : k ≤ length (versions_in m)) where
    abbrev run : List Version
    run = between j k vs

    stored : {m₁ : Bytes} → m₁ ≡ sets m (base + version_width * w) (part m (base + version_width * j) (version_width * (k - j)))
        → Stored m w (between j k vs) m₁ (w + (k - j))
    stored p =
        let n : length run ≡ k - j = simp (length-take, length-drop) (omega arith) in
        let g = each_take GoodVersion (k - j) (drop j vs) (each_drop GoodVersion j vs s.good.versions) in
        let b = run_bytes version_bytes m base version_width vs (version_rows_lem m s) j (k - j) (omega arith) in
        record { place = omega arith; holds = version_run m s w run g (omega arith) (p ∙ rw b) }

    pub copy_stored : {m₁ : Bytes}
        → m₁ ≡ sets m (version_place (key_rooms_in m) w)
        (part m (version_place (key_rooms_in m) w + version_width * (j - w)) (version_place (key_rooms_in m) k - (version_place (key_rooms_in m) w + version_width * (j - w))))
        → Stored m w (between j k (versions_in m)) m₁ (w + (k - j))
    copy_stored p =
        let a : base + version_width * w + version_width * (j - w) ≡ base + version_width * j = omega arith in
        let b : base + version_width * k - (base + version_width * j) ≡ version_width * (k - j) = omega arith in
        stored (p ∙ rw (a, b))

    -- there are none
    pub copy_empty : j ≡ k → Stored m w (between j k (versions_in m)) m w
    copy_empty e = rw (between_none j k vs (omega arith)) (record { place = omega arith; holds = holds_same m s })

    -- they are there
    pub copy_none : w ≡ j → Stored m w (between j k (versions_in m)) m k
    copy_none e =
        let n : w + (k - j) ≡ k = omega arith in
        let f : base + version_width * j + version_width * (k - j) ≤ length m = omega (arith, s.long, s.good.versions_fit) in
        rw n at (stored {m₁ = m} (rw e (sym (sets_self m (base + version_width * j) (version_width * (k - j)) f))))

  -- key rows
  module _ (i k w : ℕ) (a : w ≤ i) (h : i ≤ k) (l : k ≤ length (keys_in m)) where
    abbrev key_run : List Row
    key_run = rows_between i k (keys_in m)

    keys_stored : {m₁ : Bytes} → m₁ ≡ sets m (head_size + row_width * w) (part m (head_size + row_width * i) (row_width * (k - i)))
        → Holds m (sets (keys_in m) w (rows_between i k (keys_in m))) (versions_in m) m₁
    keys_stored p =
        let n : length key_run ≡ k - i = simp (length-take, length-drop) (omega arith) in
        let g = each_take GoodRow (k - i) (drop i (keys_in m)) (each_drop GoodRow i (keys_in m) s.good.keys) in
        let b = run_bytes row_bytes m head_size row_width (keys_in m) (key_rows_lem m s) i (k - i) (omega arith) in
        key_run_lem m s w key_run g (omega arith) (p ∙ rw b)

    pub keys_copied : {m₁ : Bytes}
        → m₁ ≡ sets m (head_size + row_width * w) (part m (head_size + row_width * w + row_width * (i - w)) (head_size + row_width * k - (head_size + row_width * w + row_width * (i - w))))
        → Holds m (sets (keys_in m) w (rows_between i k (keys_in m))) (versions_in m) m₁
    keys_copied p =
        let x : head_size + row_width * w + row_width * (i - w) ≡ head_size + row_width * i = omega arith in
        let y : head_size + row_width * k - (head_size + row_width * i) ≡ row_width * (k - i) = omega arith in
        keys_stored (p ∙ rw (x, y))

    -- they are there
    pub keys_there : w ≡ i → Holds m (sets (keys_in m) w (rows_between i k (keys_in m))) (versions_in m) m
    keys_there e =
        let f : head_size + row_width * i + row_width * (k - i) ≤ length m = omega (arith, s.long, s.good.keys_fit) in
        keys_stored {m₁ = m} (rw e (sym (sets_self m (head_size + row_width * i) (row_width * (k - i)) f)))
