-- The last rows of a table cut off.
-- Assumes nothing.
use mathlib.Core.Path.{◌≡◌, refl, sym, ◌∙◌}
use mathlib.Core.List.{List, ◌++◌, map}
use Prim.Native.Nat.{ℕ, ◌+◌, ◌-◌, ◌*◌, ◌≤◌}
use native.Mathlib.Omega.{arith}
use lib.ListN.{length, take, length-take}
use lib.Seq.{sets, take_all}
use Rattle.model.specs.Sizes.{count_width}
use Rattle.model.specs.Bytes.{Bytes, part, bytes}
use Rattle.model.specs.State.{Version}
use Rattle.memory.specs.Spans.{zeros}
use Rattle.memory.specs.Rows.{rows, joined}
use Rattle.memory.proofs.Laws.Parts.{sets_append, sets_self, length_part}
use Rattle.memory.proofs.Laws.Each.{each_take}
use Rattle.hall.specs.Layout.{head_size, row_width, version_width, key_count_place, version_count_place, version_base, version_place, Row, row_bytes, version_bytes, key_rooms_in, keys_in, versions_in, tables_in}
use Rattle.hall.specs.Tables.{GoodRow, GoodVersion, Shaped}
use Rattle.hall.proofs.Laws.Puts.{good_keys, good_versions, key_rows_lem, version_rows_lem, put_keys, put_versions}
use Rattle.hall_rows.specs.Held.{Holds}
use Rattle.hall_rows.proofs.Laws.Held.{holds_same, holds_as}
use Rattle.hall_rows.proofs.Laws.Runs.{run_bytes}

-- zeros after the first n rows: those are the bytes that are there
module _ {A : Type 0} (code : A → Bytes) (m : Bytes) (at w : ℕ) (xs : List A) (e : rows m at w (length xs) ≡ map code xs) (n : ℕ) (h : n ≤ length xs) where
  front : joined (map code (take n xs)) ≡ part m at (w * n)
  front =
      let f : at + w * 0 ≡ at = omega arith in
      rw f at (run_bytes code m at w xs e 0 n (omega arith))

  cleared : (z : ℕ) {m₁ : Bytes} → at + w * n ≤ length m → m₁ ≡ sets m (at + w * n) (zeros z) → m₁ ≡ sets m at (joined (map code (take n xs)) ++ zeros z)
  cleared z fits p =
      p ∙ rw (front, sets_append m at (part m at (w * n)) (zeros z), length_part m at (w * n) fits, sets_self m at (w * n) fits)

module _ (m : Bytes) (s : Shaped m) (n : ℕ) where
  abbrev ks : List Row
  ks = keys_in m

  abbrev vs : List Version
  vs = versions_in m

  abbrev base : ℕ
  base = version_base (key_rooms_in m)

  pub keys_cut : {c : ℕ} {m₁ m₂ : Bytes} → n ≤ length (keys_in m) → c ≡ length (keys_in m)
      → m₁ ≡ sets m (head_size + row_width * n) (zeros (row_width * (c - n)))
      → m₂ ≡ sets m₁ key_count_place (bytes count_width n) → Holds m (take n (keys_in m)) (versions_in m) m₂
  keys_cut {c} {m₁} h f p q =
      let g = each_take GoodRow n ks s.good.keys in
      let l : length (take n ks) ≡ n = rw length-take (omega arith) in
      let z : ℕ = row_width * (c - n) in
      let x = cleared row_bytes m head_size row_width ks (key_rows_lem m s) n h z (omega (arith, s.long, s.good.keys_fit)) p in
      record {
        put = put_keys m s (take n ks) z g (omega (arith, s.good.keys_fit)) (omega (arith, s.good.keys_fit)) x (rw l q);
        good = good_keys (tables_in m) (take n ks) s.good g (omega (arith, s.good.keys_fit));
      }

  pub versions_cut : {c : ℕ} {m₁ m₂ : Bytes} → n ≤ length (versions_in m) → c ≡ length (versions_in m)
      → m₁ ≡ sets m (version_place (key_rooms_in m) n) (zeros (version_width * (c - n)))
      → m₂ ≡ sets m₁ version_count_place (bytes count_width n) → Holds m (keys_in m) (take n (versions_in m)) m₂
  versions_cut {c} {m₁} h f p q =
      let g = each_take GoodVersion n vs s.good.versions in
      let l : length (take n vs) ≡ n = rw length-take (omega arith) in
      let z : ℕ = version_width * (c - n) in
      let x = cleared version_bytes m base version_width vs (version_rows_lem m s) n h z (omega (arith, s.long, s.good.versions_fit)) p in
      record {
        put = put_versions m s (take n vs) z g (omega (arith, s.good.versions_fit)) (omega (arith, s.good.versions_fit)) x (rw l q);
        good = good_versions (tables_in m) (take n vs) s.good g (omega (arith, s.good.versions_fit));
      }

  -- there are no more
  pub no_keys_cut : n ≡ length (keys_in m) → Holds m (take n (keys_in m)) (versions_in m) m
  no_keys_cut e = holds_as (sym (take_all n ks (omega arith))) refl (holds_same m s)

  pub no_versions_cut : n ≡ length (versions_in m) → Holds m (keys_in m) (take n (versions_in m)) m
  no_versions_cut e = holds_as refl (sym (take_all n vs (omega arith))) (holds_same m s)
