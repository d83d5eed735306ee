-- The older versions of a key swept, run by run.
-- Assumes nothing.
use mathlib.Core.Path.{◌≡◌, refl, sym, ap, ◌∙◌}
use mathlib.Core.Bool.{Bool, true, false, not, ◌||◌}
use mathlib.Core.List.{List, [], ◌∷◌, ◌++◌, append_assoc, append-nil}
use Prim.Native.Nat.{ℕ, zero, suc, ◌+◌, ◌-◌, ◌≤◌, ◌<◌}
use mathlib.Core.Logic.{⊎_elim}
use native.Mathlib.Nat.{eq-or-lt_of_le}
use native.Mathlib.Numerals.{add-one}
use native.Mathlib.Omega.{arith}
use lib.Dec.{leb}
use lib.ListN.{length, drop, length-take, length-drop}
use lib.Seq.{sets, length-sets, take-suc, get_or-drop}
use Rattle.model.specs.Bytes.{Bytes}
use Rattle.model.specs.State.{Version}
use Rattle.model.specs.Sweeps.{Rule, goes}
use Rattle.memory.proofs.Laws.Tests.{passed}
use Rattle.memory.proofs.Laws.Parts.{drop_sets, get_or_sets_below, get_or_sets_above}
use Rattle.hall.specs.Layout.{versions_in}
use Rattle.hall.specs.Tables.{Shaped, no_version, version_at, between}
use Rattle.hall.proofs.Laws.Chains.{between_none}
use Rattle.hall_rows.proofs.Laws.Held.{holds_same, holds_versions, holds_shaped}
use Rattle.hall_rule.specs.Readers.{Readers, IsClear, Reaches}
use Rattle.hall_rule.specs.Older.{Older, successor_of}
use Rattle.hall_rule.proofs.Laws.Rule.{clear_first, clear_later, told_goes, reach_told, goes_next}
use Rattle.hall_moves.specs.Moves.{Stored, Copyable}
use Rattle.hall_trim.specs.Held.{OldersFrom, Rises, OldersFit, Near, kept_of, Gone, Run}
use Rattle.hall_trim.proofs.Laws.Trim.{kept_none, kept_goes, kept_stays}
use Rattle.hall_moves.proofs.Laws.{stored_then}

-- ---- those from `from` up to j go; from j on all is clear up to h

pub record Leaving (c k : ℕ) (ts : List ℕ) (m : Bytes) (i from to h j : ℕ) : Type 0 where
  pub readers : Readers c k ts
  pub older : Older m i from to
  pub rises : Rises m from to
  pub gone : Gone (goes c ts) m i from to j
  pub clear : j < to → IsClear c ts (version_at j (versions_in m)) h

pub leave_start : {c k : ℕ} {ts : List ℕ} {m : Bytes} {i from to : ℕ} → Older m i from to → Rises m from to
    → Readers c k ts → Leaving c k ts m i from to k from
leave_start {m = m} {from = from} o s r =
    record {
      readers = r;
      older = o;
      rises = s;
      gone = record { start = omega arith; end = omega (arith, o.inside); same = refl };
      clear = λ l. clear_first r (version_at from (versions_in m));
    }

module _ {c k : ℕ} {ts : List ℕ} {m : Bytes} {i from to h j : ℕ} (g : Leaving c k ts m i from to h j) (l : j < to) where
  pub leave_at : Older m i j to
  leave_at =
      let o = g.older in
      record { shaped = o.shaped; newest = omega (arith, o.newest, g.gone.start); inside = l; fits = o.fits }

  pub leave_row : Shaped m × (j < length (versions_in m))
  leave_row = (g.older.shaped, omega (arith, g.older.fits))

  leave_next : {x h₁ : ℕ} → Reaches c ts (version_at j (versions_in m)) x h₁
      → goes c ts (version_at j (versions_in m)) (successor_of m i j to ∷ []) ≡ true → Leaving c k ts m i from to h₁ (suc j)
  leave_next {x} {h₁} t r =
      let vs : List Version = versions_in m in
      let z = kept_goes (goes c ts) (version_at i vs) j to vs l g.older.fits r in
      record {
        readers = g.readers;
        older = g.older;
        rises = g.rises;
        gone = record { start = omega (arith, g.gone.start); end = omega arith; same = g.gone.same ∙ z };
        clear = λ u. clear_later c ts (version_at j vs) (version_at (suc j) vs) h₁ (g.rises j g.gone.start u) t.clear;
      }

  pub leave_more : {x h₁ : ℕ} {b : Bool} → x ≡ (successor_of m i j to).number
      → Reaches c ts (version_at j (versions_in m)) x h₁
      → b ≡ (leb x h₁ || goes k [] (version_at j (versions_in m)) []) → not b ≡ false
      → Leaving c k ts m i from to h₁ (j + 1)
  leave_more q t e p =
      let r = told_goes g.readers (version_at j (versions_in m)) (successor_of m i j to) q t e in
      rw (add-one j) (leave_next t (passed r p))

  leave_near : (successor_of m i j to).number ≤ h → Leaving c k ts m i from to h (suc j)
  leave_near q =
      let v : Version = version_at j (versions_in m) in
      let w : Version = successor_of m i j to in
      let t = reach_told c ts v {x = w.number} (g.clear l) q in
      leave_next t (sym (told_goes g.readers v w refl t (goes_next w.number h k v q)))

pub leave_from : {c k : ℕ} {ts : List ℕ} {m : Bytes} {i from to h j : ℕ} → Leaving c k ts m i from to h j → OldersFrom m i j to
leave_from g =
    let o = g.older in
    record { shaped = o.shaped; newest = omega (arith, o.newest, g.gone.start); end = g.gone.end; fits = o.fits }

-- past those whose successors are at or below h
leave_on : {c k : ℕ} {ts : List ℕ} {m : Bytes} {i from to h j : ℕ} → Leaving c k ts m i from to h j → (d : ℕ) → j + d ≤ to
    → ((a : ℕ) → j ≤ a → a < j + d → (successor_of m i a to).number ≤ h) → Leaving c k ts m i from to h (j + d)
leave_on {j = j} g zero e f = let z : j + 0 ≡ j = omega arith in rw z g
leave_on {j = j} g (suc d) e f =
    let z : j + suc d ≡ suc (j + d) = omega arith in
    let i = leave_on g d (omega arith) (λ a u v. f a u (omega arith)) in
    rw z (leave_near i (omega arith) (f (j + d) (omega arith) (omega arith)))

pub leave_past : {c k : ℕ} {ts : List ℕ} {m : Bytes} {i from to h j r : ℕ} → Leaving c k ts m i from to h j → Near m i j to h r
    → Leaving c k ts m i from to h r
leave_past {j = j} {r = r} g n =
    let z : j + (r - j) ≡ r = omega (arith, n.start) in
    rw z at (leave_on g (r - j) (omega (arith, n.start, n.end)) (λ a u v. n.each a u (omega arith)))

-- ---- those whose successors are at or below h, from `from` up to j

pub record Nearing (m : Bytes) (i from to h j : ℕ) : Type 0 where
  pub olders : OldersFrom m i from to
  pub near : Near m i from to h j

pub near_start : {m : Bytes} {i from to h : ℕ} → OldersFrom m i from to → Nearing m i from to h from
near_start o = record { olders = o; near = record { start = omega arith; end = o.end; each = λ a u v. absurd (omega arith) } }

module _ {m : Bytes} {i from to h j : ℕ} (g : Nearing m i from to h j) (l : j < to) where
  pub near_at : Older m i j to
  near_at =
      let o = g.olders in
      record { shaped = o.shaped; newest = omega (arith, o.newest, g.near.start); inside = l; fits = o.fits }

  pub near_more : {x : ℕ} → x ≡ (successor_of m i j to).number → x ≤ h → Nearing m i from to h (j + 1)
  near_more e p =
      let last : (a : ℕ) → a ≡ j → (successor_of m i a to).number ≤ h = λ a z. rw z (omega arith) in
      record {
        olders = g.olders;
        near = record {
          start = omega (arith, g.near.start);
          end = omega arith;
          each = λ a u v. ⊎_elim (λ z. last a z) (λ z. g.near.each a u z) (eq-or-lt_of_le (omega arith));
        };
      }

-- ---- a run: those from `from` up to j stay

between_more : (from j : ℕ) (vs : List Version) → from ≤ j → j < length vs → between from (suc j) vs ≡ between from j vs ++ version_at j vs ∷ []
between_more from j vs h l =
    let e : suc j - from ≡ suc (j - from) = omega arith in
    let f : from + (j - from) ≡ j = omega arith in
    let k : j - from < length (drop from vs) = simp length-drop (omega arith) in
    rw (e, take-suc (drop from vs) (j - from) no_version k, get_or-drop from vs (j - from) no_version, f)

pub record Staying (rule : Rule) (m : Bytes) (i from to j : ℕ) : Type 0 where
  pub older : Older m i from to
  pub start : from ≤ j
  pub end : j ≤ to
  pub stay : kept_of rule m i from to ≡ between from j (versions_in m) ++ kept_of rule m i j to

pub run_start : {rule : Rule} {m : Bytes} {i from to : ℕ} → Older m i from to → Staying rule m i from to from
run_start {m = m} {from = from} o =
    record { older = o; start = omega arith; end = omega (arith, o.inside); stay = rw (between_none from from (versions_in m) (omega arith)) }

module _ {rule : Rule} {m : Bytes} {i from to j : ℕ} (g : Staying rule m i from to j) where
  abbrev vs : List Version
  vs = versions_in m

  pub run_at : j < to → Older m i j to
  run_at h = record { shaped = g.older.shaped; newest = omega (arith, g.older.newest, g.start); inside = h; fits = g.older.fits }

  module _ {b : Bool} (e : b ≡ rule (version_at j (versions_in m)) (successor_of m i j to ∷ [])) where
    pub run_stays : j < to → b ≡ false → Staying rule m i from to (j + 1)
    run_stays h p =
        let x = between_more from j vs g.start (omega (arith, g.older.fits)) in
        let a = append_assoc (between from j vs) (version_at j vs ∷ []) (kept_of rule m i (suc j) to) in
        let k = kept_stays rule (version_at i vs) j to vs h g.older.fits (sym e ∙ p) in
        record { older = g.older; start = omega (arith, g.start); end = omega arith; stay = rw (add-one j, x, a, ← k) g.stay }

    pub run_goes : j < to → b ≡ true → Run rule m i from to j
    run_goes h p =
        let k = kept_goes rule (version_at i vs) j to vs h g.older.fits (sym e ∙ p) in
        record { start = g.start; end = g.end; stay = rw (← k) g.stay }

  pub run_whole : to ≤ j → Run rule m i from to j
  run_whole h =
      let x = kept_none rule (version_at i vs) (suc j) to vs (omega arith) in
      let y = kept_none rule (version_at i vs) j to vs h in
      record { start = g.start; end = g.end; stay = rw (x, ← y) g.stay }

-- ---- all runs: at version j, what was stored from place w₀ on, and the next place w

pub record Going (rule : Rule) (m₀ : Bytes) (i from to w₀ : ℕ) (m : Bytes) (w j : ℕ) : Type 0 where
  pub fit : OldersFit m₀ i from to w₀
  pub start : from ≤ j
  pub low : w ≤ j
  pub done : List Version
  pub stored : Stored m₀ w₀ done m w
  pub split : kept_of rule m₀ i from to ≡ done ++ kept_of rule m₀ i j to

pub going_start : {rule : Rule} {m₀ : Bytes} {i from to w₀ : ℕ} → OldersFit m₀ i from to w₀
    → Going rule m₀ i from to w₀ m₀ w₀ from
going_start {m₀ = m₀} {w₀ = w₀} f =
    let x : Stored m₀ w₀ [] m₀ w₀ = record { place = omega arith; holds = holds_same m₀ f.shaped } in
    record { fit = f; start = omega arith; low = f.low; done = []; stored = x; split = refl }

module _ {rule : Rule} {m₀ : Bytes} {i from to w₀ : ℕ} {m : Bytes} {w j : ℕ} (g : Going rule m₀ i from to w₀ m w j) where
  abbrev vs₀ : List Version
  vs₀ = versions_in m₀

  versions_now : versions_in m ≡ sets vs₀ w₀ g.done
  versions_now = holds_versions m₀ g.fit.shaped g.stored.holds

  going_shaped : Shaped m
  going_shaped = holds_shaped m₀ g.fit.shaped g.stored.holds

  going_fits : to ≤ length (versions_in m)
  going_fits = rw (versions_now, length-sets) g.fit.fits

  pub going_at : j < to → Older m i j to
  going_at h = record { shaped = going_shaped; newest = omega (arith, g.fit.newest, g.fit.low, g.start); inside = h; fits = going_fits }

  -- what is still to be read
  ahead : (k : ℕ) → j ≤ k → drop k (versions_in m) ≡ drop k vs₀
  ahead k h = rw versions_now (drop_sets vs₀ w₀ g.done k (omega (arith, g.low, g.stored.place)))

  newest_now : version_at i (versions_in m) ≡ version_at i vs₀
  newest_now = rw versions_now (get_or_sets_below vs₀ w₀ g.done i no_version g.fit.newest)

  pub going_rises : Rises m j to
  going_rises a h l =
      let e : (b : ℕ) → j ≤ b → version_at b (versions_in m) ≡ version_at b vs₀ =
      λ b k. rw versions_now (get_or_sets_above vs₀ w₀ g.done b no_version (omega (arith, g.low, g.stored.place))) in
      rw (e a h, e (suc a) (omega arith)) (g.fit.rises a (omega (arith, g.start)) l)

  going_ahead : (k : ℕ) → j ≤ k → kept_of rule m i k to ≡ kept_of rule m₀ i k to
  going_ahead k h = rw (ahead k h, newest_now)

  pub going_skip : {f : ℕ} → Gone rule m i j to f → Going rule m₀ i from to w₀ m w f
  going_skip {f} s =
      let e = sym (going_ahead j (omega arith)) ∙ s.same ∙ going_ahead f s.start in
      record {
        fit = g.fit;
        start = omega (arith, g.start, s.start);
        low = omega (arith, g.low, s.start);
        done = g.done;
        stored = g.stored;
        split = g.split ∙ ap (λ (l : List Version). g.done ++ l) e;
      }

  pub run_fits : {k : ℕ} → Run rule m i j to k → Copyable m (length (versions_in m)) j k w
  run_fits r = record { shaped = going_shaped; low = g.low; start = r.start; end = omega (arith, r.end, going_fits) }

  pub going_step : {m₁ : Bytes} {k w₁ : ℕ} → Run rule m i j to k → Stored m w (between j k (versions_in m)) m₁ w₁
      → Going rule m₀ i from to w₀ m₁ w₁ (k + 1)
  going_step {m₁} {k} {w₁} r a =
      let x : List Version = between j k vs₀ in
      let a' : Stored m w x m₁ w₁ = rw (ahead j (omega arith)) at a in
      let n : length x ≤ k - j = rw length-take (omega arith) in
      let p : kept_of rule m₀ i j to ≡ x ++ kept_of rule m₀ i (suc k) to =
      rw (ahead j (omega arith), ahead (suc k) (omega (arith, r.start)), newest_now) at r.stay in
      record {
        fit = g.fit;
        start = omega (arith, g.start, r.start);
        low = omega (arith, g.low, r.start, a'.place);
        done = g.done ++ x;
        stored = stored_then m₀ g.fit.shaped w₀ g.done x g.stored a';
        split = rw (add-one k, append_assoc g.done x (kept_of rule m₀ i (suc k) to), ← p) g.split;
      }

  pub going_end : to ≤ j → Stored m₀ w₀ (kept_of rule m₀ i from to) m w
  going_end h = rw (g.split, kept_none rule (version_at i vs₀) j to vs₀ h, append-nil g.done) g.stored
