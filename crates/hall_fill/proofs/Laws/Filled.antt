-- The fields of a hall's dump, filled into zeros, are that hall's bytes.
use mathlib.Core.Path.{◌≡◌, refl, ◌∙◌}
use mathlib.Core.Bool.{true}
use mathlib.Core.List.{List, [], ◌∷◌, ◌++◌, map, map-append, append_assoc, append-nil}
use Prim.Native.Nat.{ℕ, suc, ◌+◌, ◌-◌, ◌*◌, ◌/◌, ◌%◌, ◌^◌, ◌≤◌, ◌<◌}
use native.Mathlib.Nat.{add-zero, not-suc-le-zero}
use native.Mathlib.Omega.{arith}
use lib.ListN.{length, length-append}
use lib.Seq.{sets}
use borrow.Author.Tests.{leb-true, ne_eqb, lt-ltb}
use Rattle.memory.proofs.Laws.Rows.{joined_append}
use Rattle.memory.proofs.Laws.Spans.{zeros_add, length_zeros, padded_none, length_padded}
use Rattle.model.specs.Sizes.{max_key, max_key_rooms, max_version_rooms, last_number, count_width}
use Rattle.model.specs.Bytes.{Bytes, bytes}
use Rattle.model.specs.State.{Version, Chain, Entry}
use Rattle.model.specs.Sound.{key_fits, sound_entries}
use Rattle.model.proofs.Cases.{every_all, key_parts}
use Rattle.model.specs.Dump.{dump_version, dump_chain, dump_entry, dump_entries}
use Rattle.memory.specs.Spans.{zeros, padded}
use Rattle.memory.specs.Rows.{joined, Each}
use Rattle.memory.proofs.Laws.Numbers.{length_bytes}
use Rattle.memory.proofs.Laws.Each.{each_take, each_drop, length_table}
use Rattle.cells.specs.Cells.{key_width, key_bytes}
use Rattle.cells.proofs.Laws.Cells.{length_key}
use Rattle.hall.specs.Tables.{GoodVersion}
use Rattle.hall.proofs.Laws.Tables.{length_row, length_version}
use Rattle.hall.proofs.Laws.Halls.{good_chain, length_older, length_latest}
use Rattle.hall.specs.Layout.{Row, head_size, row_width, version_width, version_base, older, latest, rows_of, newests_of, olders_of, row_bytes, version_bytes, head_numbers}
use Rattle.dump_fields.specs.Drive.{drive}
use Rattle.dump_fields.specs.Machine.{between}
use Rattle.dump_fields.specs.declared.machine.Phase.{Phase}
use Rattle.dump_fields.specs.declared.machine.Phase.TheVariants.{KeyLength, Key, VersionCount, Number}
use Rattle.dump_fields.specs.declared.machine.Loader.{Loader}
use Rattle.dump_fields.proofs.Laws.Machine.{or_one_lem}
use Rattle.dump_fields.proofs.Laws.Parser.{known, last_of}
use Rattle.hall_place.specs.Placing.{fit_sets}
use Rattle.hall_fill.specs.Filling.{Filling}
use Rattle.hall_fill.proofs.Laws.Regions.{grow_fit, padded_zeros, padded_padded, padded_two}
use Rattle.hall_fill.proofs.Laws.Versions.{rows_at, fill, field_filled, number_filled, version_filled}

-- a key's length in a field of its own
length_field : (n : ℕ) → n < 256 → bytes count_width n ≡ (n ∷ []) ++ zeros (count_width - 1)
unfolding bytes
length_field n h =
    let e : n % 256 ≡ n = omega arith in
    let z : n / 256 ≡ 0 = omega arith in
    rw (e, z)

-- ---- version rows

abbrev pub version_rows : List Version → Bytes
version_rows us = joined (map version_bytes us)

pub rows_both : (us ws : List Version) → version_rows (us ++ ws) ≡ version_rows us ++ version_rows ws
rows_both us ws = rw (map-append version_bytes us ws, joined_append (map version_bytes us) (map version_bytes ws))

length_rows : (us : Chain) → Each GoodVersion us → length (version_rows us) ≡ version_width * length us
length_rows us g = length_table GoodVersion version_width version_bytes length_version us g

module _ (us : Chain) (g : Each GoodVersion us) where
  older_rows : length (version_rows (older us)) ≡ version_width * (length us - 1)
  unfolding older
  older_rows = length_rows (older us) (each_take GoodVersion (length us - 1) us g) ∙ rw (length_older us)

  latest_rows : 1 ≤ length us → length (version_rows (latest us)) ≡ version_width
  unfolding latest
  latest_rows h = length_rows (latest us) (each_drop GoodVersion (length us - 1) us g) ∙ rw (length_latest us h)

-- ---- a hall of n keys

module _ (ks vs ds n : ℕ) (c : Bytes) where
  -- memory with a header of zeros, where the key rows hold K, the newest versions' rows N and the older ones' O
  abbrev pub holding : (K N O : Bytes) → Bytes
  holding K N O =
      zeros head_size ++ (padded (row_width * ks) K ++ (padded (version_width * n) N
      ++ (padded (version_width * (vs - n)) O ++ c)))

  -- before a field, with i key rows and j version rows begun
  abbrev pub before : Phase → Loader → (i j : ℕ) → (K N O : Bytes) → Filling
  before p s i j K N O = record { phase = p; known = s; rows = rows_at i j; memory = holding K N O }

  -- the same memory, where all version rows hold Q
  abbrev whole : (K Q : Bytes) → Bytes
  whole K Q = zeros head_size ++ (padded (row_width * ks) K ++ (padded (version_width * vs) Q ++ c))

  module _ (fits : n ≤ vs) where
    both : version_width * vs ≡ version_width * n + version_width * (vs - n)
    both = omega arith

    pub holding_none : whole [] [] ≡ holding [] [] []
    holding_none =
        simp padded_none (rw (both, zeros_add (version_width * n) (version_width * (vs - n))) (simp append_assoc))

    -- with all newest versions there, the older ones follow them
    holding_all : (K N O : Bytes) → length N ≡ version_width * n → length O ≤ version_width * (vs - n)
        → holding K N O ≡ whole K (N ++ O)
    holding_all K N O e l = rw (both, padded_two _ _ N O e l) (simp append_assoc)

  -- ---- a key's versions

  module _ (K : Bytes) (few : length K ≤ row_width * ks) (fits : n ≤ vs) (most : vs ≤ max_version_rooms) where
    abbrev front : Bytes
    front = zeros head_size ++ padded (row_width * ks) K

    length_front : length front ≡ version_base ks
    length_front = rw (length-append, length_zeros, length_padded (row_width * ks) K few)

    -- in the key after i others, where r are to come
    module _ (next r rooms i : ℕ) (all : suc i + r ≡ n) where
      -- m versions are to come, o older ones are there
      abbrev versioned : (m l o : ℕ) → (N O : Bytes) → Filling
      versioned m l o N O = before Number (known next r rooms m l) (suc i) (i + o) K N O

      abbrev rested : (l o : ℕ) → (N O : Bytes) → Filling
      rested l o N O = before (between (known next r rooms 0 l)) (known next r rooms 0 l) (suc i) (suc i + o) K N O

      newest_filled : (l o : ℕ) (N O : Bytes) (v : Version) (y : Bytes) → GoodVersion v
          → length N ≡ version_width * i → n + o ≤ vs
          → fill ks vs ds (versioned 1 l o N O) (dump_version v ++ y)
          ≡ fill ks vs ds (rested v.number o (N ++ version_bytes v) O) y
      newest_filled l o N O v y g e h =
          let j : suc (i + o) ≡ suc i + o = omega arith in
          let q : Bytes = padded (version_width * (vs - n)) O ++ c in
          rw (← j)
          (simp append_assoc at (version_filled ks vs ds front q (version_width * n) (version_base ks) length_front
          next r rooms 0 (suc i) (i + o) v l N y g (omega arith) (omega arith) (omega arith)))

      older_filled : (m l o : ℕ) (N O : Bytes) (v : Version) (y : Bytes) → GoodVersion v → 1 ≤ m
          → length N ≡ version_width * i → length O ≡ version_width * o → n + o < vs
          → fill ks vs ds (versioned (suc m) l o N O) (dump_version v ++ y)
          ≡ fill ks vs ds (versioned m v.number (suc o) N (O ++ version_bytes v)) y
      older_filled m l o N O v y g some e f h =
          let a : Bytes = front ++ padded (version_width * n) N in
          let w : ℕ = version_width * (vs - n) in
          let j : suc (i + o) ≡ i + suc o = omega arith in
          let p : length a ≡ version_base ks + version_width * n =
          rw (length-append, length_front, length_padded (version_width * n) N (omega arith)) in
          let z = ne_eqb m 0 (λ k. omega arith) in
          rw (← j)
          (rw z at (simp append_assoc at (version_filled ks vs ds a c w (version_base ks + version_width * n) p
          next r rooms m (suc i) (i + o) v l O y g (omega arith) (omega arith) (rw z (omega arith)))))

      chain_filled : (l o : ℕ) (N O : Bytes) (us : Chain) (y : Bytes) → 1 ≤ length us → Each GoodVersion us
          → length N ≡ version_width * i → length O ≡ version_width * o → n + (o + (length us - 1)) ≤ vs
          → fill ks vs ds (versioned (length us) l o N O) (dump_chain us ++ y)
          ≡ fill ks vs ds
          (rested (last_of l us) (o + (length us - 1)) (N ++ version_rows (latest us)) (O ++ version_rows (older us))) y
      unfolding dump_chain last_of joined older latest
      chain_filled l o N O [] y some g e f q = absurd (not-suc-le-zero some)
      chain_filled l o N O (v ∷ []) y some g e f q =
          rw (append-nil (dump_version v), append-nil (version_bytes v), append-nil O, add-zero o)
          (newest_filled l o N O v y g.0 e (omega arith))
      chain_filled l o N O (v ∷ w ∷ us) y some g e f q =
          let m : ℕ = length (w ∷ us) in
          let P : Bytes = O ++ version_bytes v in
          let j : suc m - 1 ≡ suc (m - 1) = omega arith in
          let k : o + suc (m - 1) ≡ suc o + (m - 1) = omega arith in
          let x : length P ≡ version_width * suc o = rw (length-append, length_version v g.0) (omega arith) in
          rw (append_assoc (dump_version v) (dump_chain (w ∷ us)) y, j, k)
          (older_filled m l o N O v _ g.0 (omega arith) e f (omega arith)
          ∙ chain_filled v.number (suc o) N P (w ∷ us) y (omega arith) g.1 e x (omega arith)
          ∙ rw (append_assoc O (version_bytes v) (version_rows (older (w ∷ us)))))

  -- ---- a key

  in_keys : (K N O b : Bytes) (p : ℕ) → p ≡ head_size + length K → length K + length b ≤ row_width * ks
      → fit_sets (holding K N O) p b ≡ holding (K ++ b) N O
  in_keys K N O b p e h = grow_fit (zeros head_size) _ (row_width * ks) head_size (length_zeros head_size) K b p e h

  module _ (K N O : Bytes) (k : Bytes) (short : length k ≤ max_key) (room : length K + row_width ≤ row_width * ks) where
    abbrev size : Bytes
    size = length k ∷ []

    sized : length (K ++ size) ≡ length K + 1
    sized = length-append K size

    size_row : holding (K ++ bytes count_width (length k)) N O ≡ holding (K ++ size) N O
    size_row =
        rw (
          length_field (length k) (omega arith),
          ← append_assoc K size (zeros (count_width - 1)),
          padded_zeros (row_width * ks) (K ++ size) (count_width - 1) (rw sized (omega arith)),
        )

    key_row : holding ((K ++ size) ++ k) N O ≡ holding (K ++ key_bytes k) N O
    unfolding key_bytes
    key_row =
        rw (
          ← append_assoc K size (padded max_key k),
          padded_padded (row_width * ks) max_key (K ++ size) k short (rw sized (omega arith)),
        )

  module _ (top next : ℕ) (high : top ≤ last_number) (fits : n ≤ vs) (most : vs ≤ max_version_rooms)
      (many : ks ≤ max_key_rooms) where
    -- r keys are to come, i keys and o older versions are there
    abbrev keyed : (r rooms l i o : ℕ) → (K N O : Bytes) → Filling
    keyed r rooms l i o K N O = before (between (known next r rooms 0 l)) (known next r rooms 0 l) i (i + o) K N O

    abbrev row_of : (o : ℕ) → Entry → Row
    row_of o e = record { key = e.key; end = o + (length e.chain - 1) }

    length_keys : (i o : ℕ) (K : Bytes) (e : Entry) → key_fits e.key ≡ true → length K ≡ row_width * i
        → o + (length e.chain - 1) ≤ vs → length (K ++ row_bytes (row_of o e)) ≡ row_width * suc i
    length_keys i o K e g p t =
        let low : o + (length e.chain - 1) < 256 ^ count_width = omega arith in
        rw (length-append, length_row (row_of o e) (record { short = (key_parts e.key g).1; low = low })) (omega arith)

    entry_filled : (r rooms l i o : ℕ) (K N O : Bytes) (e : Entry) (y : Bytes) → key_fits e.key ≡ true
        → 1 ≤ length e.chain → Each GoodVersion e.chain
        → length K ≡ row_width * i → i < ks → suc i + r ≡ n
        → length N ≡ version_width * i → length O ≡ version_width * o → n + (o + (length e.chain - 1)) ≤ vs
        → fill ks vs ds (keyed (suc r) rooms l i o K N O) (dump_entry e ++ y)
        ≡ fill ks vs ds (keyed r (rooms - length e.chain) (last_of 0 e.chain) (suc i) (o + (length e.chain - 1))
        (K ++ row_bytes (row_of o e)) (N ++ version_rows (latest e.chain)) (O ++ version_rows (older e.chain))) y
    unfolding dump_entry row_bytes
    entry_filled r rooms l i o K N O e y g some h p q all u v t =
        let k : Bytes = e.key in
        let m : ℕ = length e.chain in
        let w = key_parts k g in
        let room : length K + row_width ≤ row_width * ks = omega arith in
        let s : Loader = known next (suc r) rooms 0 l in
        let one : suc r - 1 ≡ r = omega arith in
        let end : i + o + m % 256 ^ count_width - suc i ≡ o + (m - 1) = omega arith in
        let S : Bytes = K ++ (length k ∷ []) in
        let R : Bytes = K ++ key_bytes k in
        let at : ℕ = head_size + row_width * (suc i - 1) in
        let f : Bytes = bytes count_width (length k) in
        let j : Bytes = bytes count_width (o + (m - 1)) in
        let a : length S ≡ row_width * i + 1 = rw length-append (omega arith) in
        let b : length R ≡ row_width * i + key_width = rw (length-append, length_key k w.1) (omega arith) in
        let d = length_keys i o K e g p (omega arith) in
        rw (ne_eqb (suc r) 0 (λ z. omega arith))
        (simp append_assoc
        (number_filled ks vs ds (before KeyLength s i (i + o) K N O) count_width (length k) _ refl
        (omega arith) (omega arith)
        ∙ rw (
          lt-ltb i max_key_rooms (omega arith),
          in_keys K N O f at (omega arith) (rw length_bytes (omega arith)),
          size_row K N O k w.1 room,
        )
        (field_filled ks vs ds (before (Key (length k)) s (suc i) (i + o) S N O) k _ (or_one_lem _ (λ z. omega arith))
        ∙ rw (in_keys S N O k (at + 1) (omega arith) (omega arith), key_row K N O k w.1 room)
        (number_filled ks vs ds (before VersionCount s (suc i) (i + o) R N O) count_width m _ refl
        (omega arith) (omega arith)
        ∙ rw (
          one,
          end,
          in_keys R N O j (at + key_width) (omega arith) (rw length_bytes (omega arith)),
          append_assoc K (key_bytes k) j,
        )
        (chain_filled (K ++ row_bytes (row_of o e)) (omega arith) fits most next r (rooms - m) i all 0 o N O e.chain y
        some h u v t)))))

    pub entries_filled : (rooms l i o : ℕ) (K N O : Bytes) (last : Bytes) (es : List Entry)
        → sound_entries last top es ≡ true → length K ≡ row_width * i → i + length es ≡ n → n ≤ ks
        → length N ≡ version_width * i → length O ≡ version_width * o → n + (o + length (olders_of es)) ≤ vs
        → fill ks vs ds (keyed (length es) rooms l i o K N O) (dump_entries es)
        ≡ sets
        (whole
        (K ++ joined (map row_bytes (rows_of o es)))
        ((N ++ version_rows (newests_of es)) ++ (O ++ version_rows (olders_of es))))
        0
        (head_numbers ks vs (next - 1) n (n + (o + length (olders_of es))) (next - 1) ds)
    unfolding dump_entries rows_of newests_of olders_of joined sound_entries drive
    entries_filled rooms l i o K N O last [] g p all q u v t =
        let a : i ≡ n = omega arith in
        let h = holding_all fits K N O (omega arith) (omega arith) in
        rw (append-nil K, append-nil N, append-nil O, add-zero o, h, ← a)
    entries_filled rooms l i o K N O last (e ∷ es) g p all q u v t =
        let a = every_all _ g in
        let us : Chain = e.chain in
        let m : ℕ = length us - 1 in
        let some : 1 ≤ length us = leb-true 1 (length us) a.1.1.0 in
        let good = good_chain top 0 us (omega (arith, high)) a.1.1.1.0 in
        let d : o + length (older us ++ olders_of es) ≡ o + m + length (olders_of es) =
        rw (length-append, length_older us) (omega arith) in
        let k = length_keys i o K e a.1.0 p (omega arith) in
        let L : Bytes = N ++ version_rows (latest us) in
        let P : Bytes = O ++ version_rows (older us) in
        let x : length L ≡ version_width * suc i = rw (length-append, latest_rows us good some) (omega arith) in
        let y : length P ≡ version_width * (o + m) = rw (length-append, older_rows us good) (omega arith) in
        rw (d, rows_both (latest us) (newests_of es), rows_both (older us) (olders_of es))
        (entry_filled (length es) rooms l i o K N O e (dump_entries es) a.1.0 some good p
        (omega arith) (omega arith) u v (omega arith)
        ∙ entries_filled (rooms - length us) (last_of 0 us) (suc i) (o + m) (K ++ row_bytes (row_of o e)) L P e.key es
        a.1.1.1.1.0 k (omega arith) q x y (omega arith)
        ∙ simp append_assoc)
