-- A hall as tables and in a memory: each way back, and sound memories.
-- Assumes nothing.
use mathlib.Core.Path.{◌≡◌, refl, sym, ap, ◌∙◌, subst}
use mathlib.Core.Bool.{Bool, true, ◌&&◌}
use mathlib.Core.List.{List, [], ◌∷◌, ◌++◌, append_assoc}
use Prim.Native.Nat.{ℕ, suc, ◌+◌, ◌-◌, ◌^◌, ◌≤◌, ◌<◌}
use native.Mathlib.Nat.{suc-add, not-suc-le-zero, le_of_suc-le-suc}
use native.Mathlib.Omega.{arith}
use borrow.Author.Tests.{leb-true}
use lib.Dec.{leb}
use lib.ListN.{length, take, drop, length-append, length-drop, take-append-drop}
use lib.Seq.{length-take-le, take_at, drop_at}
use Rattle.model.specs.Sizes.{max_key_rooms, max_version_rooms, max_desks, number_width, count_width}
use Rattle.model.specs.Bytes.{Bytes, are_bytes}
use Rattle.model.specs.State.{Payload, deletion, content, Version, Chain, Entry, Hall, version_count}
use Rattle.model.specs.Sound.{within, value_fits, sizes_fit, sound_payload, sound_chain, sound_entries, sound_hall}
use Rattle.model.proofs.Cases.{and_left, and_right, every_all, within_le, key_parts}
use Rattle.model_laws.proofs.Entries.{keys_of}
use Rattle.model_laws.proofs.Sound.{NonEmpty}
use Rattle.model_laws.proofs.Tested.{hall_parts}
use Rattle.memory.specs.Rows.{Each}
use Rattle.memory.proofs.Laws.Each.{each_append, each_take, each_drop}
use Rattle.cells.specs.Cells.{Short}
use Rattle.hall.specs.Layout.{Row, Tables, older, latest, rows_of, newests_of, olders_of, versions_of, entries_of, tables_for, hall_for}
use Rattle.hall.specs.Tables.{GoodRow, GoodVersion, GoodTables, row_keys, bump, Ends, Ranged}

-- ---- a chain in two

module _ (c : Chain) where
  pub older_latest : older c ++ latest c ≡ c
  unfolding older latest
  older_latest = take-append-drop (length c - 1) c

  pub length_older : length (older c) ≡ length c - 1
  unfolding older
  length_older = length-take-le (length c - 1) c (omega arith)

  pub length_latest : 1 ≤ length c → length (latest c) ≡ 1
  unfolding latest
  length_latest h = simp length-drop (omega arith)

  module _ (v : Version) where
    length_more : length (c ++ v ∷ []) - 1 ≡ length c
    length_more = rw (length-append c (v ∷ [])) (omega arith)

    pub older_more : older (c ++ v ∷ []) ≡ c
    unfolding older
    older_more = rw length_more (take_at c (v ∷ []) (length c) refl)

    pub latest_more : latest (c ++ v ∷ []) ≡ v ∷ []
    unfolding latest
    latest_more = rw length_more (drop_at c (v ∷ []) (length c) refl)

-- ---- a hall as tables, and back

entries_get : (b : ℕ) (es : List Entry) (x : List Version) → NonEmpty es → entries_of b (rows_of b es) (newests_of es ++ x) (olders_of es) ≡ es
unfolding entries_of rows_of newests_of olders_of
entries_get b [] x f = refl
entries_get b (e ∷ es) x f =
    let c : Chain = e.chain in
    let n : b + (length c - 1) - b ≡ length c - 1 = omega arith in
    let l = length_latest c f.0 in
    rw (
      n,
      append_assoc (latest c) (newests_of es) x,
      take_at (older c) (olders_of es) (length c - 1) (length_older c),
      drop_at (older c) (olders_of es) (length c - 1) (length_older c),
      take_at (latest c) (newests_of es ++ x) 1 l,
      drop_at (latest c) (newests_of es ++ x) 1 l,
      older_latest c,
      entries_get (b + (length c - 1)) es x f.1,
    )

pub rows_total : (b : ℕ) (es : List Entry) → length (rows_of b es) ≡ length es
unfolding rows_of
rows_total b [] = refl
rows_total b (e ∷ es) = ap suc (rows_total (b + (length e.chain - 1)) es)

pub newests_total : (es : List Entry) → NonEmpty es → length (newests_of es) ≡ length es
unfolding newests_of
newests_total [] f = refl
newests_total (e ∷ es) f = rw (length-append, length_latest e.chain f.0, newests_total es f.1) (omega arith)

pub hall_get : (h : Hall) → NonEmpty h.entries → hall_for (tables_for h) ≡ h
unfolding hall_for tables_for
hall_get h f =
    let es : List Entry = h.entries in
    rw (rows_total 0 es, drop_at (newests_of es) (olders_of es) (length es) (newests_total es f), entries_get 0 es (olders_of es) f)

pub ends_below : (b n : ℕ) (rs : List Row) → Ends b n rs → b ≤ n
ends_below b n [] a = omega arith
ends_below b n (r ∷ rs) a = let k = ends_below r.end n rs a.1 in omega arith

rows_get : (b n : ℕ) (rs : List Row) (ns os : List Version) → b + length os ≡ n → length rs ≤ length ns → Ends b n rs
    → (rows_of b (entries_of b rs ns os) ≡ rs) × (newests_of (entries_of b rs ns os) ≡ take (length rs) ns) × (olders_of (entries_of b rs ns os) ≡ os)
unfolding rows_of newests_of olders_of entries_of
rows_get b n [] ns [] e q a = (refl, refl, refl)
rows_get b n [] ns (o ∷ os) e q a = absurd (omega arith)
rows_get b n (r ∷ rs) [] os e q a = absurd (not-suc-le-zero q)
rows_get b n (r ∷ rs) (v ∷ ns) os e q a =
    let h = a.0 in
    let k = ends_below r.end n rs a.1 in
    let c : Chain = take (r.end - b) os in
    let l : length c ≡ r.end - b = length-take-le (r.end - b) os (omega arith) in
    let d : b + (length (c ++ v ∷ []) - 1) ≡ r.end = rw (length-append c (v ∷ []), l) (omega arith) in
    let m : r.end + length (drop (r.end - b) os) ≡ n = simp length-drop (omega arith) in
    let i = rows_get r.end n rs ns (drop (r.end - b) os) m (le_of_suc-le-suc q) a.1 in
    (rw (d, i.0), rw (latest_more c v, i.1), rw (older_more c v, i.2) (take-append-drop (r.end - b) os))

pub tables_get : (t : Tables) → Ranged t → tables_for (hall_for t) ≡ t
unfolding tables_for hall_for
tables_get t a =
    let n : ℕ = length t.keys in
    let l : 0 + length (drop n t.versions) ≡ length t.versions - n = simp length-drop (omega arith) in
    let i = rows_get 0 (length t.versions - n) t.keys t.versions (drop n t.versions) l a.0 a.1 in
    let k = i.0 in
    let v : versions_of (entries_of 0 t.keys t.versions (drop n t.versions)) ≡ t.versions = rw (i.1, i.2) (take-append-drop n t.versions) in
    λ i. record { key_rooms = t.key_rooms; version_rooms = t.version_rooms; desk_count = t.desk_count; counter = t.counter; floor = t.floor; keys = k i; versions = v i }

pub rows_keys : (b : ℕ) (es : List Entry) → row_keys (rows_of b es) ≡ keys_of es
unfolding rows_of keys_of
rows_keys b [] = refl
rows_keys b (e ∷ es) = rw (rows_keys (b + (length e.chain - 1)) es)

pub versions_total : (es : List Entry) → length (versions_of es) ≡ version_count es
unfolding newests_of olders_of version_count
versions_total [] = refl
versions_total (e ∷ es) =
    let p : length (older e.chain) + length (latest e.chain) ≡ length e.chain = sym (length-append (older e.chain) (latest e.chain)) ∙ ap length (older_latest e.chain) in
    let q : length (newests_of es) + length (olders_of es) ≡ version_count es = sym (length-append (newests_of es) (olders_of es)) ∙ versions_total es in
    simp length-append (omega arith)

pub rows_ends : (b : ℕ) (es : List Entry) → Ends b (b + length (olders_of es)) (rows_of b es)
unfolding rows_of olders_of
rows_ends b [] = omega arith
rows_ends b (e ∷ es) =
    let c : ℕ = length e.chain - 1 in
    let k : b + c + length (olders_of es) ≡ b + length (older e.chain ++ olders_of es) = rw (length-append, length_older e.chain) (omega arith) in
    (omega arith, subst (λ (n : ℕ). Ends (b + c) n (rows_of (b + c) es)) k (rows_ends (b + c) es))

pub tables_ranged : (h : Hall) → NonEmpty h.entries → Ranged (tables_for h)
unfolding tables_for
tables_ranged h f =
    let es : List Entry = h.entries in
    let n = newests_total es f in
    let k : 0 + length (olders_of es) ≡ length (versions_of es) - length (rows_of 0 es) = rw (length-append (newests_of es) (olders_of es), rows_total 0 es) (omega arith) in
    (rw (rows_total 0 es, length-append (newests_of es) (olders_of es)) (omega arith), rw k at (rows_ends 0 es))

pub bump_rows : (b : ℕ) (es : List Entry) → bump 0 (rows_of b es) ≡ rows_of (suc b) es
unfolding bump rows_of
bump_rows b [] = refl
bump_rows b (e ∷ es) = rw (suc-add, bump_rows (b + (length e.chain - 1)) es)

-- ---- a sound hall's tables can be said in bytes

pub payload_short : (p : Payload) → sound_payload p ≡ true → Short p
unfolding sound_payload value_fits
payload_short deletion e = tt
payload_short (content b) e = leb-true (length b) _ (and_left (leb (length b) _) (are_bytes b) e)

module _ (top : ℕ) where
  good_rows : (last : Bytes) (b : ℕ) (es : List Entry) → sound_entries last top es ≡ true → b + version_count es < 256 ^ count_width → Each GoodRow (rows_of b es)
  unfolding rows_of version_count sound_entries
  good_rows last b [] s h = tt
  good_rows last b (e ∷ es) s h =
      let a = every_all _ s in
      (record { short = (key_parts e.key a.1.0).1; low = omega arith }, good_rows e.key (b + (length e.chain - 1)) es a.1.1.1.1.0 (omega arith))

  pub good_chain : (last : ℕ) (c : Chain) → top < 256 ^ number_width → sound_chain last top c ≡ true → Each GoodVersion c
  unfolding sound_chain
  good_chain last [] h s = tt
  good_chain last (v ∷ c) h s =
      let a = every_all _ s in
      (record { low = omega (arith, leb-true v.number top a.1.0); short = payload_short v.payload a.1.1.0 }, good_chain v.number c h a.1.1.1.0)

  good_entries : (last : Bytes) (es : List Entry) → top < 256 ^ number_width → sound_entries last top es ≡ true → Each GoodVersion (newests_of es) × Each GoodVersion (olders_of es)
  unfolding newests_of olders_of older latest sound_entries
  good_entries last [] h s = (tt, tt)
  good_entries last (e ∷ es) h s =
      let a = every_all _ s in
      let g = good_chain 0 e.chain h a.1.1.1.0 in
      let i = good_entries e.key es h a.1.1.1.1.0 in (
        each_append GoodVersion (latest e.chain) (newests_of es) (each_drop GoodVersion (length e.chain - 1) e.chain g) i.0,
        each_append GoodVersion (older e.chain) (olders_of es) (each_take GoodVersion (length e.chain - 1) e.chain g) i.1,
      )

pub sound_entries_lem : (h : Hall) → sound_hall h ≡ true → sound_entries [] h.counter h.entries ≡ true
unfolding sound_hall
sound_entries_lem h s = (every_all _ s).1.1.0

-- what sizes that fit are
pub record FitSizes (ks vs ds : ℕ) : Type 0 where
  pub keys : (1 ≤ ks) × (ks ≤ max_key_rooms)
  pub versions : (1 ≤ vs) × (vs ≤ max_version_rooms)
  pub desks : (1 ≤ ds) × (ds ≤ max_desks)

pub fit_sizes : (ks vs ds : ℕ) → sizes_fit ks vs ds ≡ true → FitSizes ks vs ds
unfolding sizes_fit
fit_sizes ks vs ds z =
    let k : Bool = within 1 max_key_rooms ks in
    let v : Bool = within 1 max_version_rooms vs in
    let d : Bool = within 1 max_desks ds in
    let r = and_right k (v && d) z in
    record {
      keys = within_le 1 max_key_rooms ks (and_left k (v && d) z);
      versions = within_le 1 max_version_rooms vs (and_left v d r);
      desks = within_le 1 max_desks ds (and_right v d r);
    }

-- as the needed length asks for them
pub few_rooms : (ks vs ds : ℕ) → sizes_fit ks vs ds ≡ true → (ks ≤ max_key_rooms) × (vs ≤ max_version_rooms)
few_rooms ks vs ds z = let f = fit_sizes ks vs ds z in (f.keys.1, f.versions.1)

pub sound_sizes : (h : Hall) → sound_hall h ≡ true → FitSizes h.key_rooms h.version_rooms h.desk_count
sound_sizes h s = fit_sizes h.key_rooms h.version_rooms h.desk_count (hall_parts h s).sizes

pub good_hall : (h : Hall) → sound_hall h ≡ true → GoodTables (tables_for h)
unfolding tables_for
good_hall h s =
    let p = hall_parts h s in
    let z = sound_sizes h s in
    let c : h.counter < 256 ^ number_width = omega arith in
    record {
      few_keys = z.keys.1;
      few_versions = z.versions.1;
      few_desks = z.desks.1;
      low = c;
      floor_low = omega arith;
      keys_fit = rw (rows_total 0 h.entries) p.keys;
      versions_fit = rw (versions_total h.entries) p.versions;
      keys = good_rows h.counter [] 0 h.entries (sound_entries_lem h s) (omega arith);
      versions = let g = good_entries h.counter [] h.entries c (sound_entries_lem h s) in each_append GoodVersion (newests_of h.entries) (olders_of h.entries) g.0 g.1;
    }
