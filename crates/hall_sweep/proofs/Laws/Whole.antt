-- Both passes together are the sweep of the model.
-- Assumes nothing.
use mathlib.Core.Path.{◌≡◌, refl, sym, ap, ◌∙◌}
use mathlib.Core.Bool.{true, false, cond}
use mathlib.Core.List.{List, [], ◌∷◌, ◌++◌, append-nil}
use Prim.Native.Nat.{ℕ, zero, suc, ◌+◌, ◌-◌, ◌≤◌}
use native.Mathlib.Omega.{arith}
use lib.ListN.{length, drop, length-append}
use lib.Seq.{drop_at}
use Rattle.model.specs.Bytes.{Bytes}
use Rattle.model.specs.State.{Version, Chain, Entry}
use Rattle.model.specs.Sweeps.{Rule, goes, trim, with_chain, trim_all}
use Rattle.model.specs.History.{Rising}
use Rattle.model.proofs.Cases.{by_bool}
use Rattle.model_laws.proofs.Split.{olders, trim_split, goes_next, row_goes}
use Rattle.model_laws.proofs.Sound.{NonEmpty}
use Rattle.model_laws.proofs.Tested.{hall_parts}
use Rattle.hall.specs.Layout.{older, latest, rows_of, newests_of, olders_of, versions_of, keys_in, versions_in, hall_in, Sound}
use Rattle.hall.specs.Tables.{Shaped, version_at}
use Rattle.hall.proofs.Laws.Halls.{newests_total, rows_total, versions_total}
use Rattle.hall.proofs.Laws.Sound.{sound_shaped, put_entries}
use Rattle.hall_rows.proofs.Laws.Held.{holds_keys, holds_versions, holds_shaped, holds_then}
use Rattle.hall_rule.specs.Readers.{Readers}
use Rattle.hall_rule.specs.Older.{successor}
use Rattle.hall_rule.proofs.Laws.Rule.{goes_alone}
use Rattle.hall_trim.specs.Trim.{kept, trim_older, trim_olders}
use Rattle.hall_sweep.specs.Staying.{staying}
use Rattle.hall_trim.specs.Held.{Trimmed}
use Rattle.hall_sweep.specs.Held.{RowsFit, closed_versions, Closed, Swept}
use Rattle.hall_trim.proofs.Laws.Rising.{AllRising, all_rising}
use Rattle.hall_trim.proofs.Laws.Trim.{chain_is, trimmed_is, older_trimmed, older_left, latest_trimmed, newests_trimmed, length_trimmed}

-- a rule that looks at a version's successor and no further, and by which a whole chain goes with its newest version
record Local (g : Rule) : Type 0 where
  next : (v w : Version) (ws : Chain) → g v (w ∷ ws) ≡ g v (w ∷ [])
  whole : (hi : ℕ) (vs : Chain) (n : Version) → Rising 0 hi (vs ++ n ∷ []) → g n [] ≡ true → trim g (vs ++ n ∷ []) ≡ []

local_goes : (c : ℕ) (ts : List ℕ) → Local (goes c ts)
local_goes c ts = record { next = goes_next c ts; whole = λ hi. row_goes c ts 0 hi }

with_full : (k : Bytes) (l : Chain) (n : Version) (es : List Entry) → with_chain k (l ++ n ∷ []) es ≡ record { key = k; chain = l ++ n ∷ [] } ∷ es
unfolding with_chain
with_full k [] n es = refl
with_full k (v ∷ l) n es = refl

module _ (g : Rule) (local : Local g) where
  kept_olders : (vs : Chain) (n : Version) → kept g vs n ≡ olders g vs n
  unfolding kept olders successor
  kept_olders [] n = refl
  kept_olders (v ∷ []) n = refl
  kept_olders (v ∷ w ∷ ws) n = rw (local.next v w (ws ++ n ∷ []), kept_olders (w ∷ ws) n)

  trim_kept : (vs : Chain) (n : Version) → trim g (vs ++ n ∷ []) ≡ kept g vs n ++ cond (g n []) [] (n ∷ [])
  trim_kept vs n = trim_split g vs n ∙ rw (kept_olders vs n)

  -- a key, its chain and its newest version
  module _ (hi : ℕ) (e : Entry) (f : 1 ≤ length e.chain) (r : Rising 0 hi e.chain) where
    abbrev l : Chain
    l = e.chain

    abbrev n : Version
    n = version_at 0 (latest l)

    split : l ≡ older l ++ n ∷ []
    split = chain_is l f

    trimmed : trim g l ≡ kept g (older l) n ++ cond (g n []) [] (n ∷ [])
    trimmed = ap (trim g) split ∙ trim_kept (older l) n

    -- it goes
    module _ (p : g n [] ≡ true) where
      entry_gone : (es : List Entry) → with_chain e.key (trim g l) es ≡ es
      unfolding with_chain
      entry_gone es =
          let x : Rising 0 hi (older l ++ n ∷ []) = rw split at r in
          rw (ap (trim g) split ∙ local.whole hi (older l) n x p)

      olders_gone : kept g (older l) n ≡ []
      olders_gone =
          let x : Rising 0 hi (older l ++ n ∷ []) = rw split at r in
          let t : trim g l ≡ [] = ap (trim g) split ∙ local.whole hi (older l) n x p in
          sym (rw (p, append-nil) at trimmed) ∙ t

    -- it stays
    entry_left : g n [] ≡ false → (es : List Entry) → with_chain e.key (trim g l) es ≡ record { key = e.key; chain = trim_older g l } ∷ es
    entry_left p es =
        let t : trim g l ≡ kept g (older l) n ++ n ∷ [] = rw p at trimmed in
        rw (trimmed_is g l n split, t) (with_full e.key (kept g (older l) n) n es)

  -- ---- all keys; x and y stand after the newest versions

  rows_closed : (hi b : ℕ) (es : List Entry) (x : List Version) → NonEmpty es → AllRising hi es
      → staying g (length es) (newests_of (trim_olders g es) ++ x) (rows_of b (trim_olders g es)) ≡ rows_of b (trim_all g es)
  unfolding staying newests_of trim_olders rows_of trim_all
  rows_closed hi b [] x f r = refl
  rows_closed hi b (e ∷ es) x f r =
      let l : Chain = e.chain in
      let n : Version = version_at 0 (latest l) in
      let s = split hi e f.0 r.0 in
      let h : ℕ = b + (length (trim_older g l) - 1) in
      by_bool (g n [])
      (λ p.
      let z : h ≡ b = omega (arith, older_left g l n s, ap length (olders_gone hi e f.0 r.0 p)) in
      rw (latest_trimmed g l n s, p, entry_gone hi e f.0 r.0 p (trim_all g es), z) (rows_closed hi b es x f.1 r.1))
      (λ p. rw (latest_trimmed g l n s, p, entry_left hi e f.0 r.0 p (trim_all g es), rows_closed hi h es x f.1 r.1))

  newests_closed : (hi : ℕ) (es : List Entry) (x y : List Version) → NonEmpty es → AllRising hi es
      → staying g (length es) (newests_of (trim_olders g es) ++ x) (newests_of (trim_olders g es) ++ y) ≡ newests_of (trim_all g es)
  unfolding staying newests_of trim_olders trim_all
  newests_closed hi [] x y f r = refl
  newests_closed hi (e ∷ es) x y f r =
      let l : Chain = e.chain in
      let n : Version = version_at 0 (latest l) in
      let s = split hi e f.0 r.0 in
      let i = newests_closed hi es x y f.1 r.1 in
      by_bool (g n [])
      (λ p. rw (latest_trimmed g l n s, p, entry_gone hi e f.0 r.0 p (trim_all g es)) i)
      (λ p. rw (entry_left hi e f.0 r.0 p (trim_all g es), latest_trimmed g l n s, p, i))

  olders_closed : (hi : ℕ) (es : List Entry) → NonEmpty es → AllRising hi es → olders_of (trim_olders g es) ≡ olders_of (trim_all g es)
  unfolding olders_of trim_olders trim_all
  olders_closed hi [] f r = refl
  olders_closed hi (e ∷ es) f r =
      let l : Chain = e.chain in
      let n : Version = version_at 0 (latest l) in
      let s = split hi e f.0 r.0 in
      let i = olders_closed hi es f.1 r.1 in
      by_bool (g n [])
      (λ p. rw (older_trimmed g l n s, olders_gone hi e f.0 r.0 p, entry_gone hi e f.0 r.0 p (trim_all g es)) i)
      (λ p. rw (entry_left hi e f.0 r.0 p (trim_all g es), i))

-- what stays with nothing after it does not depend on what comes after
staying_same : {A : Type 0} (g h : Rule) → ((v : Version) → g v [] ≡ h v []) → (n : ℕ) (vs : List Version) (xs : List A)
    → staying g n vs xs ≡ staying h n vs xs
unfolding staying
staying_same g h e zero vs xs = refl
staying_same g h e (suc n) vs xs = rw (e (version_at 0 vs), staying_same g h e n (drop 1 vs) (drop 1 xs))

module _ {m₀ : Bytes} {c k : ℕ} {rs : List ℕ} {m : Bytes} (y : Readers c k rs) (o : Sound m₀) (t : Trimmed (goes c rs) m₀ m) where
  abbrev g : Rule
  g = goes c rs

  abbrev es : List Entry
  es = (hall_in m₀).entries

  abbrev ts : List Entry
  ts = trim_olders g es

  full : NonEmpty es
  full = (hall_parts (hall_in m₀) o.hall).non_empty

  rising : AllRising (hall_in m₀).counter es
  rising = let h = hall_parts (hall_in m₀) o.hall in all_rising (hall_in m₀).counter [] es h.ascending h.rising

  abbrev shaped : Shaped m₀
  shaped = sound_shaped m₀ o

  keys_trimmed : keys_in m ≡ rows_of 0 ts
  keys_trimmed = holds_keys m₀ shaped t

  versions_trimmed : versions_in m ≡ newests_of ts ++ olders_of ts
  versions_trimmed = holds_versions m₀ shaped t

  count_trimmed : length (keys_in m) ≡ length es
  count_trimmed = rw keys_trimmed (rows_total 0 ts ∙ length_trimmed g es)

  newests_long : length (newests_of ts) ≡ length es
  newests_long = rw (newests_trimmed g es full) (newests_total es full)

  pub trimmed_fits : RowsFit m (length (keys_in m))
  trimmed_fits =
      record {
        shaped = holds_shaped m₀ shaped t;
        count = refl;
        fits = rw (versions_trimmed, length-append) (omega (arith, count_trimmed, newests_long));
      }

  abbrev count : ℕ
  count = length es

  rows_end : staying g (length (keys_in m)) (versions_in m) (keys_in m) ≡ rows_of 0 (trim_all g es)
  rows_end = rw (count_trimmed, versions_trimmed, keys_trimmed) (rows_closed g (local_goes c rs) (hall_in m₀).counter 0 es (olders_of ts) full rising)

  versions_end : closed_versions g (length (keys_in m)) (versions_in m) ≡ versions_of (trim_all g es)
  versions_end =
      let a = newests_closed g (local_goes c rs) (hall_in m₀).counter es (olders_of ts) (olders_of ts) full rising in
      let b = olders_closed g (local_goes c rs) (hall_in m₀).counter es full rising in
      rw (count_trimmed, versions_trimmed, a, drop_at (newests_of ts) (olders_of ts) count newests_long, b)

  same : {A : Type 0} (n : ℕ) (vs : List Version) (xs : List A) → staying (goes k []) n vs xs ≡ staying g n vs xs
  same = staying_same (goes k []) g (goes_alone y)

  rows_closing : staying (goes k []) (length (keys_in m)) (versions_in m) (keys_in m) ≡ rows_of 0 (trim_all g es)
  rows_closing = same _ _ _ ∙ rows_end

  versions_closing : closed_versions (goes k []) (length (keys_in m)) (versions_in m) ≡ versions_of (trim_all g es)
  versions_closing = rw (same (length (keys_in m)) (versions_in m) (versions_in m)) versions_end

  pub swept : {m₁ : Bytes} {r : ℕ} → Closed (goes k []) m m₁ r → Swept m₀ c rs m₁ r
  swept d =
      record {
        left = d.left ∙ ap length versions_closing ∙ versions_total (trim_all g es);
        hall = put_entries m₀ (trim_all g es) rows_closing versions_closing (holds_then m₀ shaped t d.holds).put;
      }
