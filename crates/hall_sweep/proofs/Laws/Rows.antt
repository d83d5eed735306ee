-- The keys whose newest version stays, run by run.
-- Assumes nothing.
use mathlib.Core.Path.{◌≡◌, refl, sym, ap, ◌∙◌}
use mathlib.Core.Bool.{Bool, true, false}
use mathlib.Core.List.{List, [], ◌++◌, append_assoc, append-nil}
use Prim.Native.Nat.{ℕ, suc, ◌+◌, ◌-◌, ◌≤◌, ◌<◌}
use native.Mathlib.Numerals.{add-one}
use native.Mathlib.Omega.{arith}
use lib.ListN.{length, take, drop, length-append, length-take, length-drop}
use lib.Seq.{sets, length-sets, sets-eq, take-add, take_all, take_at, drop-drop, get_or-drop}
use Rattle.model.specs.Bytes.{Bytes}
use Rattle.model.specs.State.{Version}
use Rattle.model.specs.Sweeps.{Rule}
use Rattle.memory.proofs.Laws.Parts.{sets_append, drop_sets}
use Rattle.hall.specs.Layout.{Row, keys_in, versions_in}
use Rattle.hall.specs.Tables.{Shaped, no_version, version_at, between}
use Rattle.hall_rows.specs.Held.{Holds}
use Rattle.hall_rows.proofs.Laws.Held.{holds_same, holds_as, holds_keys, holds_versions, holds_shaped, holds_then}
use Rattle.hall_sweep.specs.Staying.{staying, staying_from}
use Rattle.hall_moves.specs.Moves.{Stored, Copyable, rows_between}
use Rattle.hall_sweep.specs.Held.{RowsFit, RowRun, RunFits, RunStored, RowsKept, closed_versions, Closed}

-- ---- rows in step with versions

module _ {A : Type 0} (g : Rule) (n : ℕ) (vs : List Version) (xs : List A) (i : ℕ) where
  stays_none : n ≤ i → staying_from g i n vs xs ≡ []
  unfolding staying
  stays_none h =
      let e : n - i ≡ 0 = omega arith in
      rw e

  module _ (h : i < n) where
    turn : n - i ≡ suc (n - suc i)
    turn = omega arith

    first : version_at 0 (drop i vs) ≡ version_at i vs
    first =
        let e : i + 0 ≡ i = omega arith in
        get_or-drop i vs 0 no_version ∙ ap (λ (k : ℕ). version_at k vs) e

    later : {B : Type 0} (ys : List B) → drop 1 (drop i ys) ≡ drop (suc i) ys
    later ys =
        let e : i + 1 ≡ suc i = omega arith in
        drop-drop 1 i ys ∙ ap (λ (k : ℕ). drop k ys) e

    stays_goes : g (version_at i vs) [] ≡ true → staying_from g i n vs xs ≡ staying_from g (suc i) n vs xs
    unfolding staying
    stays_goes p = rw (turn, first, p, later vs, later xs)

    stays_one : g (version_at i vs) [] ≡ false → staying_from g i n vs xs ≡ take 1 (drop i xs) ++ staying_from g (suc i) n vs xs
    unfolding staying
    stays_one p = rw (turn, first, p, later vs, later xs)

-- a run: those from `from` up to i stay
abbrev StayTo : {A : Type 0} → Rule → (n : ℕ) → List Version → List A → (from i : ℕ) → Type 0
StayTo g n vs xs from i = staying_from g from n vs xs ≡ take (i - from) (drop from xs) ++ staying_from g i n vs xs

module _ {A : Type 0} (g : Rule) (n : ℕ) (vs : List Version) (xs : List A) (from : ℕ) where
  to_start : StayTo g n vs xs from from
  to_start =
      let e : from - from ≡ 0 = omega arith in
      rw e

  module _ (i : ℕ) (a : from ≤ i) (s : StayTo g n vs xs from i) where
    run_more : take (suc i - from) (drop from xs) ≡ take (i - from) (drop from xs) ++ take 1 (drop i xs)
    run_more =
        let e : suc i - from ≡ (i - from) + 1 = omega arith in
        let f : from + (i - from) ≡ i = omega arith in
        rw (e, take-add (i - from) 1 (drop from xs), drop-drop (i - from) from xs, f)

    to_more : i < n → g (version_at i vs) [] ≡ false → StayTo g n vs xs from (suc i)
    to_more h p =
        s ∙ rw (stays_one g n vs xs i h p, run_more)
        (sym (append_assoc (take (i - from) (drop from xs)) (take 1 (drop i xs)) (staying_from g (suc i) n vs xs)))

    to_goes : i < n → g (version_at i vs) [] ≡ true
        → staying_from g from n vs xs ≡ take (i - from) (drop from xs) ++ staying_from g (suc i) n vs xs
    to_goes h p = s ∙ rw (stays_goes g n vs xs i h p)

    to_end : n ≤ i → staying_from g from n vs xs ≡ take (i - from) (drop from xs) ++ staying_from g (suc i) n vs xs
    to_end h = s ∙ rw (stays_none g n vs xs i h, stays_none g n vs xs (suc i) (omega arith))

pub record Standing (g : Rule) (m : Bytes) (from n i : ℕ) : Type 0 where
  pub rows : RowsFit m n
  pub start : from ≤ i
  pub end : i ≤ n
  pub keys : StayTo g n (versions_in m) (keys_in m) from i
  pub newest : StayTo g n (versions_in m) (versions_in m) from i

pub stand_start : {g : Rule} {m : Bytes} {from n : ℕ} → RowsFit m n → from ≤ n → Standing g m from n from
stand_start {g} {m} {from} {n} f h =
    record {
      rows = f;
      start = omega arith;
      end = h;
      keys = to_start g n (versions_in m) (keys_in m) from;
      newest = to_start g n (versions_in m) (versions_in m) from;
    }

module _ {g : Rule} {m : Bytes} {from n i : ℕ} (s : Standing g m from n i) where
  abbrev vs : List Version
  vs = versions_in m

  pub stand_at : i < n → Shaped m × (i < length (versions_in m))
  stand_at h = (s.rows.shaped, omega (arith, s.rows.fits))

  module _ {b : Bool} (e : b ≡ g (version_at i (versions_in m)) []) (h : i < n) where
    pub stand_more : b ≡ false → Standing g m from n (i + 1)
    stand_more p =
        let q = sym e ∙ p in
        rw (add-one i) (record {
          rows = s.rows;
          start = omega (arith, s.start);
          end = omega arith;
          keys = to_more g n vs (keys_in m) from i s.start s.keys h q;
          newest = to_more g n vs vs from i s.start s.newest h q;
        })

    pub stand_goes : b ≡ true → RowRun g m from n i
    stand_goes p =
        let q = sym e ∙ p in
        record {
          start = s.start;
          end = s.end;
          keys = to_goes g n vs (keys_in m) from i s.start s.keys h q;
          newest = to_goes g n vs vs from i s.start s.newest h q;
        }

  pub stand_end : n ≤ i → RowRun g m from n i
  stand_end h =
      record {
        start = s.start;
        end = s.end;
        keys = to_end g n vs (keys_in m) from i s.start s.keys h;
        newest = to_end g n vs vs from i s.start s.newest h;
      }

-- ---- a run stored

module _ {m : Bytes} {i k w : ℕ} (f : RunFits m i k w) where
  abbrev shaped : Shaped m
  shaped = f.rows.shaped

  module _ {m₁ : Bytes} (a : Holds m (sets (keys_in m) w (rows_between i k (keys_in m))) (versions_in m) m₁) where
    pub run_next : Copyable m₁ (length (versions_in m₁)) i k w
    run_next =
        record { shaped = holds_shaped m shaped a; low = f.low; start = f.start; end = rw (holds_versions m shaped a) (omega (arith, f.end, f.rows.fits)) }

    pub run_stored : {m₂ : Bytes} {r : ℕ} → Stored m₁ w (between i k (versions_in m₁)) m₂ r → RunStored m i k w m₂ r
    run_stored {m₂} {r} b =
        let v = holds_versions m shaped a in
        let b' : Stored m₁ w (between i k (versions_in m)) m₂ r = rw v at b in
        let n : length (between i k (versions_in m)) ≡ k - i = simp (length-take, length-drop) (omega (arith, f.end, f.rows.fits)) in
        record {
          place = omega (arith, b'.place);
          holds = holds_as (holds_keys m shaped a) (ap (λ (l : List Version). sets l w (between i k (versions_in m))) v) (holds_then m shaped a b'.holds);
        }

-- ---- all runs: at row i, what was stored in the first rows

pub record Keeping (g : Rule) (m₀ : Bytes) (n : ℕ) (m : Bytes) (w i : ℕ) : Type 0 where
  pub fit : RowsFit m₀ n
  pub low : w ≤ i
  pub few : w ≤ n
  pub rows : List Row
  pub news : List Version
  pub rows_long : length rows ≡ w
  pub news_long : length news ≡ w
  pub holds : Holds m₀ (sets (keys_in m₀) 0 rows) (sets (versions_in m₀) 0 news) m
  pub rows_left : staying g n (versions_in m₀) (keys_in m₀) ≡ rows ++ staying_from g i n (versions_in m₀) (keys_in m₀)
  pub news_left : staying g n (versions_in m₀) (versions_in m₀) ≡ news ++ staying_from g i n (versions_in m₀) (versions_in m₀)

pub keep_start : {g : Rule} {m : Bytes} {n : ℕ} → RowsFit m n → Keeping g m n m 0 0
keep_start {m = m} {n = n} f =
    let e : n - 0 ≡ n = omega arith in
    record {
      fit = f;
      low = omega arith;
      few = omega arith;
      rows = [];
      news = [];
      rows_long = refl;
      news_long = refl;
      holds = holds_same m f.shaped;
      rows_left = rw e;
      news_left = rw e;
    }

module _ {g : Rule} {m₀ : Bytes} {n : ℕ} {m : Bytes} {w i : ℕ} (s : Keeping g m₀ n m w i) where
  abbrev ks₀ : List Row
  ks₀ = keys_in m₀

  abbrev vs₀ : List Version
  vs₀ = versions_in m₀

  keys_now : keys_in m ≡ sets ks₀ 0 s.rows
  keys_now = holds_keys m₀ s.fit.shaped s.holds

  versions_now : versions_in m ≡ sets vs₀ 0 s.news
  versions_now = holds_versions m₀ s.fit.shaped s.holds

  count_now : length (keys_in m) ≡ n
  count_now = rw (keys_now, length-sets) (sym s.fit.count)

  pub keep_fits : RowsFit m n
  keep_fits =
      record {
        shaped = holds_shaped m₀ s.fit.shaped s.holds;
        count = sym count_now;
        fits = rw (versions_now, length-sets) s.fit.fits;
      }

  -- what is still to be read
  keys_ahead : (k : ℕ) → i ≤ k → drop k (keys_in m) ≡ drop k ks₀
  keys_ahead k h = rw keys_now (drop_sets ks₀ 0 s.rows k (omega (arith, s.low, s.rows_long)))

  versions_ahead : (k : ℕ) → i ≤ k → drop k (versions_in m) ≡ drop k vs₀
  versions_ahead k h = rw versions_now (drop_sets vs₀ 0 s.news k (omega (arith, s.low, s.news_long)))

  module _ {k : ℕ} (r : RowRun g m i n k) where
    pub keep_run : RunFits m i k w
    keep_run =
        record {
          rows = rw count_now keep_fits;
          low = s.low;
          start = r.start;
          end = omega (arith, r.end, count_now);
        }

    pub keep_step : {m₁ : Bytes} {w₁ : ℕ} → RunStored m i k w m₁ w₁ → Keeping g m₀ n m₁ w₁ (k + 1)
    keep_step {m₁} {w₁} a =
        let x : List Row = rows_between i k ks₀ in
        let y : List Version = between i k vs₀ in
        let kd : drop i (keys_in m) ≡ drop i ks₀ = keys_ahead i (omega arith) in
        let vd : drop i (versions_in m) ≡ drop i vs₀ = versions_ahead i (omega arith) in
        let kt : drop (suc k) (keys_in m) ≡ drop (suc k) ks₀ = keys_ahead (suc k) (omega (arith, r.start)) in
        let vt : drop (suc k) (versions_in m) ≡ drop (suc k) vs₀ = versions_ahead (suc k) (omega (arith, r.start)) in
        let p : staying_from g i n vs₀ ks₀ ≡ x ++ staying_from g (suc k) n vs₀ ks₀ = rw (kd, vd, kt, vt) at r.keys in
        let q : staying_from g i n vs₀ vs₀ ≡ y ++ staying_from g (suc k) n vs₀ vs₀ = rw (vd, vt) at r.newest in
        let xl : length x ≡ k - i = simp (length-take, length-drop) (omega (arith, r.end, s.fit.count)) in
        let yl : length y ≡ k - i = simp (length-take, length-drop) (omega (arith, r.end, s.fit.fits)) in
        let kw : w ≡ 0 + length s.rows = omega (arith, s.rows_long) in
        let vw : w ≡ 0 + length s.news = omega (arith, s.news_long) in
        let kp : sets (keys_in m) w (rows_between i k (keys_in m)) ≡ sets ks₀ 0 (s.rows ++ x) =
        rw (kd, keys_now) (ap (λ (j : ℕ). sets (sets ks₀ 0 s.rows) j x) kw ∙ sym (sets_append ks₀ 0 s.rows x)) in
        let vp : sets (versions_in m) w (between i k (versions_in m)) ≡ sets vs₀ 0 (s.news ++ y) =
        rw (vd, versions_now) (ap (λ (j : ℕ). sets (sets vs₀ 0 s.news) j y) vw ∙ sym (sets_append vs₀ 0 s.news y)) in
        record {
          fit = s.fit;
          low = omega (arith, a.place, s.low, r.start);
          few = omega (arith, a.place, s.low, r.start, r.end);
          rows = s.rows ++ x;
          news = s.news ++ y;
          rows_long = rw length-append (omega (arith, a.place, s.rows_long));
          news_long = rw length-append (omega (arith, a.place, s.news_long));
          holds = holds_as kp vp (holds_then m₀ s.fit.shaped s.holds a.holds);
          rows_left = rw (add-one k, append_assoc s.rows x (staying_from g (suc k) n vs₀ ks₀), ← p) s.rows_left;
          news_left = rw (add-one k, append_assoc s.news y (staying_from g (suc k) n vs₀ vs₀), ← q) s.news_left;
        }

  pub keep_end : n ≤ i → RowsKept g m₀ n m w
  keep_end h =
      let a : s.rows ≡ staying g n vs₀ ks₀ = sym (s.rows_left ∙ rw (stays_none g n vs₀ ks₀ i h) (append-nil s.rows)) in
      let b : s.news ≡ staying g n vs₀ vs₀ = sym (s.news_left ∙ rw (stays_none g n vs₀ vs₀ i h) (append-nil s.news)) in
      record {
        few = s.few;
        keys = sym (ap length a) ∙ s.rows_long;
        newest = sym (ap length b) ∙ s.news_long;
        holds = holds_as (ap (λ (l : List Row). sets ks₀ 0 l) a) (ap (λ (l : List Version). sets vs₀ 0 l) b) s.holds;
      }

-- ---- then the older versions moved down, and both tables cut

pub rows_fit_lem : {m : Bytes} {n : ℕ} → RowsFit m (length (keys_in m)) → n ≡ length (keys_in m) → RowsFit m n
rows_fit_lem f e = record { shaped = f.shaped; count = e; fits = omega (arith, e, f.fits) }

front_is : {A : Type 0} (l xs : List A) (n : ℕ) → length xs ≡ n → n ≤ length l → take n (sets l 0 xs) ≡ xs
front_is l xs n e h = rw (sets-eq xs l 0 (omega arith)) (take_at xs (drop (0 + length xs) l) n e)

module _ {g : Rule} {m m₁ : Bytes} {n r : ℕ} (f : RowsFit m n) (a : RowsKept g m n m₁ r) where
  abbrev ks : List Row
  ks = keys_in m

  abbrev us : List Version
  us = versions_in m

  abbrev s : Shaped m
  s = f.shaped

  versions_kept : versions_in m₁ ≡ sets us 0 (staying g n us us)
  versions_kept = holds_versions m s a.holds

  pub kept_shaped : Shaped m₁
  kept_shaped = holds_shaped m s a.holds

  module _ {t : ℕ} (p : t ≡ length (versions_in m₁)) where
    total : t ≡ length us
    total = p ∙ rw (versions_kept, length-sets)

    pub move_fits : Copyable m₁ (length (versions_in m₁)) n t r
    move_fits = record { shaped = kept_shaped; low = a.few; start = omega (arith, total, f.fits); end = omega (arith, p) }

    moved : between n t (versions_in m₁) ≡ drop n us
    moved =
        let d : drop n (versions_in m₁) ≡ drop n us = rw versions_kept (drop_sets us 0 (staying g n us us) n (omega (arith, a.newest, a.few))) in
        let e : length (drop n us) ≤ t - n = rw length-drop (omega (arith, total)) in
        rw d (take_all (t - n) (drop n us) e)

    module _ {m₂ : Bytes} {w : ℕ} (b : Stored m₁ r (between n t (versions_in m₁)) m₂ w) where
      abbrev final : List Version
      final = closed_versions g n us

      long : w ≡ length final
      long = b.place ∙ rw (moved, length-append, a.newest)

      held : Holds m (sets ks 0 (staying g n us ks)) (sets us 0 final) m₂
      held =
          let k = holds_keys m s a.holds in
          let e : 0 + length (staying g n us us) ≡ r = omega (arith, a.newest) in
          let v : sets (versions_in m₁) r (between n t (versions_in m₁)) ≡ sets us 0 final =
          rw (moved, versions_kept, ← e) (sym (sets_append us 0 (staying g n us us) (drop n us))) in
          holds_as k v (holds_then m s a.holds b.holds)

      short : length final ≤ length us
      short = rw length-append (omega (arith, a.newest, a.few, length-drop n us, f.fits))

      pub keys_cuttable : Shaped m₂ × (r ≤ length (keys_in m₂))
      keys_cuttable = (holds_shaped m s held, rw (holds_keys m s held, length-sets) (omega (arith, a.few, f.count)))

      module _ {m₃ : Bytes} (c : Holds m₂ (take r (keys_in m₂)) (versions_in m₂) m₃) where
        held_cut : Holds m (staying g n us ks) (sets us 0 final) m₃
        held_cut =
            let k : take r (keys_in m₂) ≡ staying g n us ks =
            ap (λ (l : List Row). take r l) (holds_keys m s held) ∙ front_is ks (staying g n us ks) r a.keys (omega (arith, a.few, f.count)) in
            holds_as k (holds_versions m s held) (holds_then m s held c)

        pub versions_cuttable : Shaped m₃ × (w ≤ length (versions_in m₃))
        versions_cuttable = (holds_shaped m s held_cut, rw (holds_versions m s held_cut, length-sets) (omega (arith, long, short)))

        pub all_closed : {m₄ : Bytes} → Holds m₃ (keys_in m₃) (take w (versions_in m₃)) m₄ → Closed g m m₄ w
        all_closed {m₄} d =
            let v : take w (versions_in m₃) ≡ final =
            ap (λ (l : List Version). take w l) (holds_versions m s held_cut) ∙ front_is us final w (sym long) (omega (arith, long, short)) in
            let h : Holds m (staying g n us ks) final m₄ = holds_as (holds_keys m s held_cut) v (holds_then m s held_cut d) in
            record { left = rw (← f.count) long; holds = rw (← f.count) h }
