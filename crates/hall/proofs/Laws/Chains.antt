-- A key's chain is the older versions between two ends and the newest in the key's own row: what is newest there, and what is seen.
-- Assumes nothing.
use mathlib.Core.Path.{◌≡◌, refl, sym, ap, ◌∙◌, subst}
use mathlib.Core.Bool.{true, false, cond}
use mathlib.Core.List.{List, [], ◌∷◌, ◌++◌, append_assoc}
use Rattle.std.specs.Prelude.{Option, None, Some}
use Prim.Native.Nat.{ℕ, zero, suc, ◌+◌, ◌-◌, ◌≤◌, ◌<◌}
use native.Mathlib.Nat.{not-suc-le-zero, le_of_suc-le-suc}
use native.Mathlib.Omega.{arith}
use lib.Dec.{leb}
use lib.ListN.{length, get_or, take, drop, length-drop}
use lib.Seq.{take_at, take-suc, drop_at, drop-append-add, drop-drop, get_or-append-add, get_or-drop, drop-cons}
use Rattle.model.specs.Bytes.{Bytes, order}
use Rattle.model.specs.State.{Version, Chain, Entry, look, visible, newest_of}
use Rattle.model.proofs.Cases.{by_bool, by_order}
use Rattle.model_laws.proofs.Chains.{visible_append, newest_append}
use Rattle.model_laws.proofs.Sound.{NonEmpty}
use Rattle.model_laws.proofs.Tested.{hall_parts}
use Rattle.cells.specs.declared.rows.Place.{Place}
use Rattle.cells.specs.declared.rows.Place.TheVariants.{At, Before}
use Rattle.hall.specs.Layout.{Row, older, latest, rows_of, newests_of, olders_of, keys_in, versions_in, hall_in, Sound}
use Rattle.hall.specs.Tables.{no_version, no_entry, row_at, row_keys, version_at, end_before, chain_at, Ends, between}
use Rattle.cells.specs.Rows.{place_of}
use Rattle.hall.specs.Seen.{seen_from, seen_of, version_seen}
use Rattle.hall.proofs.Laws.Halls.{older_latest, length_older, length_latest, ends_below, rows_total, rows_ends, newests_total}
use Rattle.hall.proofs.Laws.Sound.{keys_are, versions_are, keys_counted, sound_ranged}
use Rattle.cells.proofs.Laws.Rows.{next, Within, place_next, place_in}

-- ---- ends

before_next : (b i : ℕ) (r : Row) (rs : List Row) → end_before b (suc i) (r ∷ rs) ≡ end_before r.end i rs
unfolding end_before
before_next b zero r rs = refl
before_next b (suc i) r rs = refl

pub ends_at : (b n i : ℕ) (rs : List Row) → Ends b n rs → i < length rs → (b ≤ end_before b i rs) × (end_before b i rs ≤ (row_at i rs).end) × ((row_at i rs).end ≤ n)
unfolding end_before
ends_at b n i [] a h = absurd (not-suc-le-zero h)
ends_at b n zero (r ∷ rs) a h = (omega arith, a.0, ends_below r.end n rs a.1)
ends_at b n (suc i) (r ∷ rs) a h =
    let q = ends_at r.end n i rs a.1 (le_of_suc-le-suc h) in
    let l = a.0 in
    let e = before_next b i r rs in
    (omega arith, omega arith, q.2)

-- ---- a chain by its place

-- the versions of the row at a place, after b older versions: the newest of ns, the others of os
abbrev chain_by : (b : ℕ) → Place → List Row → (ns os : List Version) → Chain
chain_by b (At i) rs ns os = take ((row_at i rs).end - end_before b i rs) (drop (end_before b i rs - b) os) ++ version_at i ns ∷ []
chain_by b (Before i) rs ns os = []

pub one_first : (l y : Chain) → length l ≡ 1 → version_at 0 (l ++ y) ∷ [] ≡ l
one_first [] y e = absurd (omega arith)
one_first (v ∷ []) y e = refl
one_first (v ∷ w ∷ l) y e = absurd (omega arith)

-- entries that begin with e, each with a version; x stands after the newest versions
module _ (b : ℕ) (e : Entry) (es : List Entry) (x : List Version) (f : 1 ≤ length e.chain) where
  abbrev c : Chain
  c = e.chain

  abbrev b' : ℕ
  b' = b + (length c - 1)

  chain_first : c ≡ take (b + (length c - 1) - b) (drop (b - b) (older c ++ olders_of es)) ++ version_at 0 ((latest c ++ newests_of es) ++ x) ∷ []
  chain_first =
      let y : b' - b ≡ length c - 1 = omega arith in
      let z : b - b ≡ 0 = omega arith in
      rw (y, z, take_at (older c) (olders_of es) (length c - 1) (length_older c), append_assoc (latest c) (newests_of es) x, one_first (latest c) (newests_of es ++ x) (length_latest c f))
      (sym (older_latest c))

  chain_next : (p : Place) → Within p (length es)
      → chain_by b (next p) (rows_of b (e ∷ es)) ((latest c ++ newests_of es) ++ x) (older c ++ olders_of es) ≡ chain_by b' p (rows_of b' es) (newests_of es ++ x) (olders_of es)
  unfolding rows_of
  chain_next (Before i) h = refl
  chain_next (At i) h =
      let rs : List Row = rows_of b' es in
      let q = ends_at b' (b' + length (olders_of es)) i rs (rows_ends b' es) (rw (rows_total b' es) h) in
      let z : end_before b' i rs - b ≡ length (older c) + (end_before b' i rs - b') = omega (arith, length_older c) in
      let n : suc i ≡ length (latest c) + i = omega (arith, length_latest c f) in
      let v : version_at (suc i) ((latest c ++ newests_of es) ++ x) ≡ version_at i (newests_of es ++ x) =
      rw (n, append_assoc (latest c) (newests_of es) x) (get_or-append-add (latest c) (newests_of es ++ x) i no_version) in
      rw (before_next b i (record { key = e.key; end = b' }) rs, z, drop-append-add (older c) (olders_of es) (end_before b' i rs - b'), v)

-- an entry by its row
entry_by : (b i : ℕ) (es : List Entry) (x : List Version) → NonEmpty es → i < length es
    → get_or es i no_entry ≡ record { key = (row_at i (rows_of b es)).key; chain = chain_by b (At i) (rows_of b es) (newests_of es ++ x) (olders_of es) }
unfolding rows_of newests_of olders_of end_before
entry_by b i [] x f h = absurd (not-suc-le-zero h)
entry_by b zero (e ∷ es) x f h = ap (λ (c : Chain). record { key = e.key; chain = c }) (chain_first b e es x f.0)
entry_by b (suc i) (e ∷ es) x f h =
    let l : i < length es = le_of_suc-le-suc h in
    rw (chain_next b e es x f.0 (At i) l) (entry_by (b + (length e.chain - 1)) i es x f.1 l)

look_by : (k : Bytes) (b : ℕ) (es : List Entry) (x : List Version) → NonEmpty es
    → look k es ≡ chain_by b (place_of k 0 (row_keys (rows_of b es))) (rows_of b es) (newests_of es ++ x) (olders_of es)
unfolding look place_of rows_of newests_of olders_of end_before
look_by k b [] x f = refl
look_by k b (e ∷ es) x f =
    let b' : ℕ = b + (length e.chain - 1) in
    let p : Place = place_of k 0 (row_keys (rows_of b' es)) in
    by_order (order k e.key)
    (λ o. rw o)
    (λ o. rw o (chain_first b e es x f.0))
    (λ o.
    let w = subst (λ (n : ℕ). Within p n) (rows_total b' es) (place_in (λ (r : Row). r.key) k (rows_of b' es)) in
    rw (o, place_next k 0 (row_keys (rows_of b' es))) (look_by k b' es x f.1 ∙ sym (chain_next b e es x f.0 p w)))

-- ---- a run of versions: from its front, its newest, what is seen of it

module _ (j to : ℕ) (vs : List Version) where
  pub between_none : to ≤ j → between j to vs ≡ []
  between_none h =
      let e : to - j ≡ 0 = omega arith in
      rw e

  pub between_cons : j < to → to ≤ length vs → between j to vs ≡ version_at j vs ∷ between (suc j) to vs
  between_cons h l =
      let e : to - j ≡ suc (to - suc j) = omega arith in
      let k : j < length vs = omega arith in
      rw (e, drop-cons vs j no_version k)

run_more : (lo n : ℕ) (vs : List Version) → lo + n < length vs → take (suc n) (drop lo vs) ≡ take n (drop lo vs) ++ (version_at (lo + n) vs ∷ [])
run_more lo n vs h =
    let l : n < length (drop lo vs) = simp length-drop (omega arith) in
    rw (take-suc (drop lo vs) n no_version l, get_or-drop lo vs n no_version)

visible_run : (t lo n : ℕ) (vs : List Version) → lo + n ≤ length vs → visible t (take n (drop lo vs)) ≡ version_seen (seen_from t lo n vs) vs
unfolding visible seen_from
visible_run t lo zero vs h = refl
visible_run t lo (suc n) vs h =
    rw (run_more lo n vs (omega arith), visible_append t (take n (drop lo vs)) (version_at (lo + n) vs ∷ []))
    (by_bool (leb (version_at (lo + n) vs).number t) (λ e. rw e) (λ e. rw e (visible_run t lo n vs (omega arith))))

-- a walk down to `lo`, before place j: the version there is numbered x
module _ (t lo j : ℕ) (vs : List Version) where
  pub seen_step : {x : ℕ} → lo < j → x ≡ (version_at (j - 1) vs).number → seen_from t lo (j - lo) vs ≡ cond (leb x t) (Some (j - 1)) (seen_from t lo (j - 1 - lo) vs)
  unfolding seen_from
  seen_step h n =
      let e : j - lo ≡ suc (j - 1 - lo) = omega arith in
      let f : lo + (j - 1 - lo) ≡ j - 1 = omega arith in
      rw (e, f, n)

  pub seen_end : j ≤ lo → seen_from t lo (j - lo) vs ≡ None
  unfolding seen_from
  seen_end h =
      let e : j - lo ≡ 0 = omega arith in
      rw e

-- the newest version of row i is seen, or one of the older ones
module _ (t i : ℕ) (rs : List Row) (vs : List Version) where
  pub seen_newest : leb (version_at i vs).number t ≡ true → Some i ≡ seen_of t i rs vs
  seen_newest e = rw e

  pub seen_older : {n b e : ℕ} {s : Option ℕ} → leb (version_at i vs).number t ≡ false → n ≡ length rs → b ≡ end_before 0 i rs → e ≡ (row_at i rs).end
      → s ≡ seen_from t (n + b) (n + e - (n + b)) vs → s ≡ seen_of t i rs vs
  seen_older {n} {b} {e} f p q r g =
      let y : n + e - (n + b) ≡ e - b = omega arith in
      g ∙ rw (f, y, p, q, r)

-- a version before place n
abbrev pub SeenBelow : Option ℕ → ℕ → Type 0
SeenBelow (Some j) n = j < n
SeenBelow None n = Unit {0}

seen_below : (t lo n : ℕ) (vs : List Version) (k : ℕ) → lo + n ≤ k → SeenBelow (seen_from t lo n vs) k
unfolding seen_from
seen_below t lo zero vs k h = tt
seen_below t lo (suc n) vs k h =
    by_bool (leb (version_at (lo + n) vs).number t) (λ e. rw e (omega arith)) (λ e. rw e (seen_below t lo n vs k (omega arith)))

-- ---- in a sound memory

module _ (m : Bytes) (s : Sound m) where
  abbrev rs : List Row
  rs = keys_in m

  abbrev vs : List Version
  vs = versions_in m

  abbrev es : List Entry
  es = (hall_in m).entries

  full : NonEmpty es
  full = (hall_parts (hall_in m) s.hall).non_empty

  -- what stands after the newest versions
  pub olders_are : drop (length (keys_in m)) (versions_in m) ≡ olders_of (hall_in m).entries
  olders_are = rw (keys_counted m s, versions_are m s) (drop_at (newests_of es) (olders_of es) (length es) (newests_total es full))

  -- the versions of row i, by places in memory
  chain_told : (i : ℕ) → chain_by 0 (At i) (rows_of 0 es) (newests_of es ++ olders_of es) (olders_of es) ≡ chain_at i rs vs
  chain_told i =
      let z : end_before 0 i rs - 0 ≡ end_before 0 i rs = omega arith in
      let y : length rs + (row_at i rs).end - (length rs + end_before 0 i rs) ≡ (row_at i rs).end - end_before 0 i rs = omega arith in
      rw (← keys_are m s, ← versions_are m s, ← olders_are, z, y, drop-drop (end_before 0 i rs) (length rs) vs)

  module _ (i : ℕ) (h : i < length (keys_in m)) where
    pub row_range : (end_before 0 i (keys_in m) ≤ (row_at i (keys_in m)).end) × (length (keys_in m) + (row_at i (keys_in m)).end ≤ length (versions_in m))
    row_range =
        let r = sound_ranged m s in
        let a = ends_at 0 (length vs - length rs) i rs r.1 h in
        (a.1, omega arith)

    pub seen_in : (t : ℕ) → SeenBelow (seen_of t i (keys_in m) (versions_in m)) (length (versions_in m))
    seen_in t =
        by_bool (leb (version_at i vs).number t)
        (λ e. rw e (omega (arith, row_range)))
        (λ e. rw e (seen_below t (length rs + end_before 0 i rs) ((row_at i rs).end - end_before 0 i rs) vs (length vs) (omega (arith, row_range))))

    pub entry_at_lem : get_or (hall_in m).entries i no_entry ≡ record { key = (row_at i (keys_in m)).key; chain = chain_at i (keys_in m) (versions_in m) }
    entry_at_lem =
        let l : i < length es = omega (arith, keys_counted m s) in
        entry_by 0 i es (olders_of es) full l ∙ rw (chain_told i, ← keys_are m s)

  module _ (k : Bytes) where
    look_told : look k (hall_in m).entries ≡ chain_by 0 (place_of k 0 (row_keys rs)) (rows_of 0 es) (newests_of es ++ olders_of es) (olders_of es)
    look_told = look_by k 0 es (olders_of es) full ∙ ap (λ (l : List Row). chain_by 0 (place_of k 0 (row_keys l)) (rows_of 0 es) (newests_of es ++ olders_of es) (olders_of es)) (sym (keys_are m s))

    pub look_none : (i : ℕ) → place_of k 0 (row_keys (keys_in m)) ≡ Before i → look k (hall_in m).entries ≡ []
    look_none i p = look_told ∙ ap (λ (q : Place). chain_by 0 q (rows_of 0 es) (newests_of es ++ olders_of es) (olders_of es)) p

    module _ (i : ℕ) (p : place_of k 0 (row_keys (keys_in m)) ≡ At i) where
      pub at_in : i < length (keys_in m)
      at_in = subst (λ (q : Place). Within q (length rs)) p (place_in (λ (r : Row). r.key) k rs)

      pub look_at : look k (hall_in m).entries ≡ chain_at i (keys_in m) (versions_in m)
      look_at = look_told ∙ ap (λ (q : Place). chain_by 0 q (rows_of 0 es) (newests_of es ++ olders_of es) (olders_of es)) p ∙ chain_told i

      pub newest_at : newest_of (look k (hall_in m).entries) ≡ Some (version_at i (versions_in m))
      unfolding newest_of
      newest_at = rw look_at (newest_append (between (length rs + end_before 0 i rs) (length rs + (row_at i rs).end) vs) (version_at i vs ∷ []))

      pub visible_at : (t : ℕ) → visible t (look k (hall_in m).entries) ≡ version_seen (seen_of t i (keys_in m) (versions_in m)) (versions_in m)
      unfolding visible
      visible_at t =
          let lo : ℕ = length rs + end_before 0 i rs in
          let n : ℕ = (row_at i rs).end - end_before 0 i rs in
          let y : length rs + (row_at i rs).end - lo ≡ n = omega arith in
          rw (look_at, y, visible_append t (take n (drop lo vs)) (version_at i vs ∷ []))
          (by_bool (leb (version_at i vs).number t) (λ e. rw e) (λ e. rw e (visible_run t lo n vs (omega (arith, row_range i at_in)))))
