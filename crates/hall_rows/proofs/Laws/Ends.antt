-- Ends stored, and ends that go up, one row after the other.
-- Assumes nothing.
use mathlib.Core.Path.{◌≡◌, refl, sym, ◌∙◌}
use mathlib.Core.List.{List, [], ◌∷◌, map}
use Prim.Native.Nat.{ℕ, suc, ◌+◌, ◌-◌, ◌^◌, ◌≤◌, ◌<◌}
use native.Mathlib.Omega.{arith}
use lib.ListN.{length, take, drop, set, length-map, length-take, length-drop}
use lib.Seq.{sets, length-sets, set-get_or, take-suc, get_or-drop}
use Rattle.model.specs.Sizes.{count_width}
use Rattle.model.specs.Bytes.{Bytes, bytes}
use Rattle.memory.proofs.Laws.Parts.{sets_append, get_or_sets_above}
use Rattle.hall.specs.Layout.{end_place, Row, keys_in, versions_in, tables_in}
use Rattle.hall.specs.Tables.{Shaped, no_row, row_at, set_end}
use Rattle.hall.proofs.Laws.Puts.{good_keys}
use Rattle.hall.proofs.Laws.Rows.{put_end, length_set_end, good_set_end}
use Rattle.hall_rows.specs.Held.{Holds}
use Rattle.hall_rows.specs.Runs.{raise, raised, EndStorable}
use Rattle.hall_rows.proofs.Laws.Held.{holds_same, holds_as, holds_keys, holds_versions, holds_shaped, holds_then}
use Rattle.hall_rows.proofs.Laws.Runs.{map_append}

-- an end stored in a memory that holds tables
module _ (m : Bytes) (s : Shaped m) (i n : ℕ) where
  pub end_holds : {m₁ : Bytes} → i < length (keys_in m) → n < 256 ^ count_width → m₁ ≡ sets m (end_place i) (bytes count_width n)
      → Holds m (set_end i n (keys_in m)) (versions_in m) m₁
  end_holds h l p =
      let a = good_set_end i n (keys_in m) s.good.keys h l in
      record {
        put = put_end m s i h n l p;
        good = good_keys (tables_in m) (set_end i n (keys_in m)) s.good a (rw length_set_end s.good.keys_fit);
      }

  -- it has that end
  pub end_none : (row_at i (keys_in m)).end ≡ n → Holds m (set_end i n (keys_in m)) (versions_in m) m
  unfolding set_end
  end_none e =
      let f : keys_in m ≡ set_end i n (keys_in m) = rw (← e) (sym (set-get_or (keys_in m) i no_row)) in
      holds_as f refl (holds_same m s)

-- row i raised is row i with another end
pub end_raised : (m : Bytes) (i n : ℕ) {e : ℕ} {m₁ : Bytes} → e ≡ (row_at i (keys_in m)).end
    → Holds m (set_end i (e + n) (keys_in m)) (versions_in m) m₁
    → Holds m (set (keys_in m) i (raise n (row_at i (keys_in m)))) (versions_in m) m₁
unfolding set_end
end_raised m i n f h = rw f at h

-- rows `from` up to i are raised
module _ (m : Bytes) (s : Shaped m) (from n : ℕ) where
  abbrev rs : List Row
  rs = keys_in m

  pub raised_none : Holds m (raised from from n (keys_in m)) (versions_in m) m
  raised_none =
      let z : from - from ≡ 0 = omega arith in
      rw z (holds_same m s)

  module _ {i : ℕ} {m₁ : Bytes} (h : Holds m (raised from i n (keys_in m)) (versions_in m) m₁) (a : from ≤ i) (l : i < length (keys_in m)) where
    long : length (map (raise n) (take (i - from) (drop from rs))) ≡ i - from
    long = simp (length-map, length-take, length-drop) (omega arith)

    next_row : row_at i (keys_in m₁) ≡ row_at i rs
    next_row = rw (holds_keys m s h) (get_or_sets_above rs from (map (raise n) (take (i - from) (drop from rs))) i no_row (omega (arith, long)))

    pub raise_asks : (row_at i (keys_in m)).end + n < 256 ^ count_width → EndStorable m₁ i ((row_at i (keys_in m₁)).end + n)
    raise_asks k = record { shaped = holds_shaped m s h; below = rw (holds_keys m s h, length-sets) l; low = rw next_row k }

    step : set (raised from i n rs) i (raise n (row_at i rs)) ≡ raised from (i + 1) n rs
    step =
        let k : i + 1 - from ≡ suc (i - from) = omega arith in
        let j : i - from < length (drop from rs) = simp length-drop (omega arith) in
        let e : from + (i - from) ≡ i = omega arith in
        rw (k, take-suc (drop from rs) (i - from) no_row j, get_or-drop from rs (i - from) no_row, e, map_append (raise n) (take (i - from) (drop from rs)) (row_at i rs ∷ []))
        (sym (sets_append rs from (map (raise n) (take (i - from) (drop from rs))) (raise n (row_at i rs) ∷ []) ∙ rw (long, e)))

    pub raise_next : {m₂ : Bytes} → Holds m₁ (set (keys_in m₁) i (raise n (row_at i (keys_in m₁)))) (versions_in m₁) m₂ → Holds m (raised from (i + 1) n (keys_in m)) (versions_in m) m₂
    raise_next k = holds_as (rw (next_row, holds_keys m s h) step) (holds_versions m s h) (holds_then m s h k)
