-- The writes of a desk against a hall: clashes as records of an output, and the order in which a chain is looked at.
use Rattle.std.specs.Prelude.{ℕ, ◌+◌, ◌-◌, ◌*◌, ◌/◌, ◌≤◌, ◌<◌, ◌≡◌, cond, List, eqb, ltb, length}
use Rattle.std.proofs.lemmas.List.Edits.{sets}
use Rattle.model.specs.Sizes.{max_key}
use Rattle.model.specs.Bytes.{Bytes}
use Rattle.model.specs.Calls.{Clashes}
use Rattle.memory.specs.Rows.{Each}
use Rattle.memory.specs.Spans.{overlay}
use Rattle.cells.specs.Cells.{clash_width, clash_bytes, listed}
use Rattle.hall.specs.Layout.{Row, keys_in, versions_in, Sound}
use Rattle.hall.specs.Tables.{row_at, version_at, end_before}

-- ---- clashes in an output

-- the key in row i of hall memory m, with its newest number
abbrev pub clash_at : (m : Bytes) → (i : ℕ) → Bytes × ℕ
clash_at m i = ((row_at i (keys_in m)).key, (version_at i (versions_in m)).number)

-- clash c as record n of an output, if that has room for it
abbrev pub put_clash : (out : Bytes) → (n : ℕ) → (c : Bytes × ℕ) → Bytes
put_clash out n c = cond (ltb n (length out / clash_width)) (sets out (clash_width * n) (clash_bytes c)) out

-- the n clashes cs, whose keys fit their records, turned the output `before` into `after`
pub record Gathered (before after : Bytes) (cs : Clashes) (n : ℕ) : Type 0 where
  pub short : Each (λ (c : Bytes × ℕ). length c.0 ≤ max_key) cs
  pub count : n ≡ length cs
  pub output : after ≡ overlay (listed (length before) cs) before

-- ---- a chain from its newest version down

-- the version row of key row i's version k, counted from the newest down
abbrev pub down_from : (i k : ℕ) → List Row → ℕ
down_from i k rs = cond (eqb k 0) i (length rs + (row_at i rs).end - k)

-- key row i of a sound hall memory m has k older versions or more
pub record Deep (m : Bytes) (i k : ℕ) : Type 0 where
  pub hall : Sound m
  pub row : i < length (keys_in m)
  pub deep : k ≤ (row_at i (keys_in m)).end - end_before 0 i (keys_in m)
