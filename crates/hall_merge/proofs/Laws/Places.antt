-- A version added to entries at its key's place: what it does to the tables; and places that rise.
-- Assumes nothing.
use mathlib.Core.Path.{◌≡◌, refl, sym, ap, ◌∙◌}
use mathlib.Core.List.{List, [], ◌∷◌, ◌++◌, map-id, append_assoc}
use Rattle.std.specs.declared.cmp.Ordering.TheVariants.{Less}
use Prim.Native.Nat.{ℕ, zero, suc, ◌+◌, ◌-◌, ◌≤◌}
use native.Mathlib.Nat.{zero-add, suc-add}
use native.Mathlib.Omega.{arith}
use lib.ListN.{length, set, length-append}
use lib.Seq.{get_or-append-add}
use Rattle.model.specs.Bytes.{Bytes, order}
use Rattle.model.specs.State.{Version, Chain, Entry, Writes, add}
use Rattle.model.proofs.Cases.{by_order}
use Rattle.model_laws.proofs.Entries.{SoundWrites, keys_of}
use Rattle.model_laws.proofs.Sound.{NonEmpty}
use Rattle.memory.specs.Rows.{insert_at}
use Rattle.cells.specs.Rows.{place_of}
use Rattle.cells.specs.declared.rows.Place.{Place}
use Rattle.cells.specs.declared.rows.Place.TheVariants.{At, Before}
use Rattle.cells.proofs.Laws.Rows.{next, Within, place_next, place_in}
use Rattle.hall.specs.Layout.{Row, older, latest, rows_of, newests_of, olders_of}
use Rattle.hall.specs.Tables.{no_version, row_at, version_at, end_before, bump}
use Rattle.hall.proofs.Laws.Halls.{older_latest, length_older, length_latest, older_more, latest_more, rows_total, rows_ends, bump_rows}
use Rattle.hall.proofs.Laws.Chains.{ends_at, one_first}
use Rattle.hall_merge.specs.Merge.{row_by, next_by, PlacesRise}
use Rattle.hall_merge.proofs.Laws.Adds.{order_over, order_past}

-- ---- what a version added at a place does to each table, after b older versions

abbrev pub rows_by : (b : ℕ) → Place → Bytes → List Row → List Row
rows_by b (At p) k rs = bump p rs
rows_by b (Before p) k rs = insert_at p (record { key = k; end = end_before b p rs }) rs

abbrev pub newests_by : Place → Version → List Version → List Version
newests_by (At p) v ns = set ns p v
newests_by (Before p) v ns = insert_at p v ns

abbrev pub olders_by : (b : ℕ) → Place → List Row → (ns os : List Version) → List Version
olders_by b (At p) rs ns os = insert_at ((row_at p rs).end - b) (version_at p ns) os
olders_by b (Before p) rs ns os = os

rows_next : (b : ℕ) (p : Place) (k : Bytes) (r : Row) (rs : List Row) → rows_by b (next p) k (r ∷ rs) ≡ r ∷ rows_by r.end p k rs
unfolding bump insert_at end_before
rows_next b (At i) k r rs = refl
rows_next b (Before zero) k r rs = refl
rows_next b (Before (suc i)) k r rs = refl

newests_next : (p : Place) (v n : Version) (ns : List Version) → newests_by (next p) v (n ∷ ns) ≡ n ∷ newests_by p v ns
unfolding insert_at
newests_next (At i) v n ns = refl
newests_next (Before i) v n ns = refl

insert_far : {A : Type 0} (n : ℕ) (v : A) (xs ys : List A) → insert_at (length xs + n) v (xs ++ ys) ≡ xs ++ insert_at n v ys
unfolding insert_at
insert_far n v [] ys = rw zero-add
insert_far n v (x ∷ xs) ys = rw (suc-add, insert_far n v xs ys)

olders_next : (b : ℕ) (e : Entry) (es : List Entry) → 1 ≤ length e.chain → (p : Place) → Within p (length es)
    → olders_by b (next p) (rows_of b (e ∷ es)) (latest e.chain ++ newests_of es) (older e.chain ++ olders_of es)
    ≡ older e.chain ++ olders_by (b + (length e.chain - 1)) p (rows_of (b + (length e.chain - 1)) es) (newests_of es) (olders_of es)
unfolding rows_of
olders_next b e es f (Before i) h = refl
olders_next b e es f (At i) h =
    let c : Chain = e.chain in
    let b' : ℕ = b + (length c - 1) in
    let rs : List Row = rows_of b' es in
    let q = ends_at b' (b' + length (olders_of es)) i rs (rows_ends b' es) (rw (rows_total b' es) h) in
    let z : (row_at i rs).end - b ≡ length (older c) + ((row_at i rs).end - b') = omega (arith, length_older c) in
    let n : suc i ≡ length (latest c) + i = omega (arith, length_latest c f) in
    let w : version_at (suc i) (latest c ++ newests_of es) ≡ version_at i (newests_of es) = rw n (get_or-append-add (latest c) (newests_of es) i no_version) in
    rw (z, w) (insert_far ((row_at i rs).end - b') (version_at i (newests_of es)) (older c) (olders_of es))

module _ (k : Bytes) (v : Version) where
  pub rows_add : (b : ℕ) (es : List Entry) → NonEmpty es → rows_of b (add k v es) ≡ rows_by b (place_of k 0 (keys_of es)) k (rows_of b es)
  unfolding add rows_of place_of keys_of bump insert_at end_before
  rows_add b [] f =
      let z : b + 0 ≡ b = omega arith in
      rw z
  rows_add b (e ∷ es) f =
      let b' : ℕ = b + (length e.chain - 1) in
      let z : b + 0 ≡ b = omega arith in
      by_order (order k e.key)
      (λ o. rw (o, z))
      (λ o.
      let n : b + (length (e.chain ++ v ∷ []) - 1) ≡ suc b' = rw (length-append e.chain (v ∷ [])) (omega (arith, f.0)) in
      rw (o, n, bump_rows b' es))
      (λ o. rw (o, place_next k 0 (keys_of es), rows_next b (place_of k 0 (keys_of es)) k (record { key = e.key; end = b' }) (rows_of b' es), rows_add b' es f.1))

  pub newests_add : (es : List Entry) → NonEmpty es → newests_of (add k v es) ≡ newests_by (place_of k 0 (keys_of es)) v (newests_of es)
  unfolding add newests_of place_of keys_of insert_at
  newests_add [] f = ap (λ (l : Chain). l ++ []) (latest_more [] v)
  newests_add (e ∷ es) f =
      let c : Chain = e.chain in
      let l : version_at 0 (latest c ++ []) ∷ [] ≡ latest c = one_first (latest c) [] (length_latest c f.0) in
      by_order (order k e.key)
      (λ o. rw (o, latest_more [] v))
      (λ o. rw (o, latest_more c v, ← l))
      (λ o. rw (o, place_next k 0 (keys_of es), newests_add es f.1, ← l) (sym (newests_next (place_of k 0 (keys_of es)) v (version_at 0 (latest c ++ [])) (newests_of es))))

  pub olders_add : (b : ℕ) (es : List Entry) → NonEmpty es → olders_of (add k v es) ≡ olders_by b (place_of k 0 (keys_of es)) (rows_of b es) (newests_of es) (olders_of es)
  unfolding add olders_of newests_of rows_of place_of keys_of insert_at
  olders_add b [] f = ap (λ (l : Chain). l ++ []) (older_more [] v)
  olders_add b (e ∷ es) f =
      let c : Chain = e.chain in
      let b' : ℕ = b + (length c - 1) in
      by_order (order k e.key)
      (λ o. rw (o, older_more [] v))
      (λ o.
      let z : b' - b ≡ length (older c) + 0 = omega (arith, length_older c) in
      let l : version_at 0 (latest c ++ newests_of es) ∷ [] ≡ latest c = one_first (latest c) (newests_of es) (length_latest c f.0) in
      let g : older c ++ (version_at 0 (latest c ++ newests_of es) ∷ olders_of es) ≡ c ++ olders_of es =
      sym (append_assoc (older c) (version_at 0 (latest c ++ newests_of es) ∷ []) (olders_of es)) ∙ ap (λ (x : Chain). (older c ++ x) ++ olders_of es) l ∙ ap (λ (x : Chain). x ++ olders_of es) (older_latest c) in
      rw (o, older_more c v, z, insert_far 0 (version_at 0 (latest c ++ newests_of es)) (older c) (olders_of es)) (sym g))
      (λ o.
      let p = olders_next b e es f.0 (place_of k 0 (keys_of es)) (place_in (λ (e : Entry). e.key) k es) in
      rw (o, place_next k 0 (keys_of es), olders_add b' es f.1) (sym p))

  pub full_add : (es : List Entry) → NonEmpty es → NonEmpty (add k v es)
  unfolding add
  full_add [] f = (omega arith, tt)
  full_add (e ∷ es) f =
      by_order (order k e.key)
      (λ o. rw o (omega arith, f))
      (λ o. rw o (rw (length-append e.chain (v ∷ [])) (omega arith), f.1))
      (λ o. rw o (f.0, full_add es f.1))

-- ---- places that rise

place_low : (k : Bytes) (i : ℕ) (xs : List Bytes) → i ≤ row_by (place_of k i xs)
unfolding place_of
place_low k i [] = omega arith
place_low k i (x ∷ xs) = by_order (order k x) (λ o. rw o (omega arith)) (λ o. rw o (omega arith)) (λ o. rw o (omega (arith, place_low k (suc i) xs)))

place_rise : (k j : Bytes) → order k j ≡ Less → (i : ℕ) (xs : List Bytes) → next_by (place_of k i xs) ≤ row_by (place_of j i xs)
unfolding place_of
place_rise k j h i [] = omega arith
place_rise k j h i (x ∷ xs) =
    by_order (order k x)
    (λ o. rw o (place_low j i (x ∷ xs)))
    (λ o. rw (o, order_past j k x h o) (place_low j (suc i) xs))
    (λ o. rw (o, order_over j k x h o) (place_rise k j h (suc i) xs))

next_within : (p : Place) (n : ℕ) → Within p n → next_by p ≤ n
next_within (At i) n h = h
next_within (Before i) n h = h

within : (k : Bytes) (ks : List Bytes) → Within (place_of k 0 ks) (length ks)
within k ks = rw (map-id ks) at (place_in (λ (x : Bytes). x) k ks)

pub rising : (last : Bytes) (ws : Writes) (ks : List Bytes) → SoundWrites last ws → PlacesRise ks (length ks) ws
rising last [] ks s = tt
rising last (w ∷ []) ks s = (next_within (place_of w.key 0 ks) (length ks) (within w.key ks), tt)
rising last (w ∷ u ∷ ws) ks s = (place_rise w.key u.key s.3.0 0 ks, rising w.key (u ∷ ws) ks s.3)
