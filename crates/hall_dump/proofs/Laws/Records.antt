-- A dump's records: by rows and versions of a memory, one after the other, and how long they are at most.
-- Assumes nothing.
use mathlib.Core.Path.{◌≡◌, refl, sym, ap, ◌∙◌}
use mathlib.Core.Bool.{true}
use mathlib.Core.List.{List, [], ◌∷◌, ◌++◌, append_assoc, append-nil}
use Prim.Native.Nat.{ℕ, zero, suc, ◌+◌, ◌-◌, ◌*◌, ◌≤◌, ◌<◌}
use native.Mathlib.Nat.{not-suc-le-zero, le_of_suc-le-suc}
use native.Mathlib.Numerals.{add-one}
use native.Mathlib.Omega.{arith}
use lib.ListN.{length, drop, length-append, length-take, length-drop, drop_of_length-le}
use lib.Seq.{drop-cons, take-append-add}
use Rattle.model.specs.Sizes.{max_key, max_key_rooms, max_version_rooms, last_number, magic_width, number_width, count_width}
use Rattle.model.specs.Bytes.{Bytes, part, bytes}
use Rattle.model.specs.State.{Version, Chain, Entry, Hall, version_count}
use Rattle.model.specs.Dump.{magic, dump_payload, dump_version, dump_chain, dump_entry, dump_entries, dump_hall}
use Rattle.model.specs.Sound.{sound_chain, sound_entries, sound_hall}
use Rattle.model.proofs.Cases.{every_all, key_parts}
use Rattle.model_laws.proofs.Tested.{hall_parts}
use Rattle.memory.proofs.Laws.Numbers.{length_bytes}
use Rattle.memory.proofs.Laws.Parts.{part_part}
use Rattle.cells.specs.Cells.{payload_width, payload_bytes, Short, payload_from}
use Rattle.cells.proofs.Laws.Cells.{record_short, payload_front}
use Rattle.hall.specs.Layout.{version_width, version_base, Row, version_bytes, key_rooms_in, counter_in, keys_in, versions_in, hall_for, hall_in, Sound}
use Rattle.hall.specs.Tables.{Shaped, no_entry, row_at, version_at, end_before, between}
use Rattle.hall.proofs.Laws.Halls.{payload_short, sound_sizes, sound_entries_lem}
use Rattle.hall.proofs.Laws.Sound as sound
use Rattle.hall.proofs.Laws.Sound.{keys_counted}
use Rattle.hall.proofs.Laws.Rows.{version_good, version_bytes_lem, payload_told}
use Rattle.hall.proofs.Laws.Chains.{row_range, entry_at_lem, between_none, between_cons}
use Rattle.hall_dump.specs.Records.{entry_at, dump_head, key_head}

-- ---- a version's record is the front of its row

pub length_record : (v : Version) → length (dump_version v) ≡ number_width + length (dump_payload v.payload)
unfolding dump_version
length_record v = rw (length-append, length_bytes)

version_most : (v : Version) → Short v.payload → length (dump_version v) ≤ version_width
version_most v h = rw (length_record v) (omega (arith, record_short v.payload h))

record_front : (v : Version) → Short v.payload → part (version_bytes v) 0 (length (dump_version v)) ≡ dump_version v
unfolding part version_bytes dump_version
record_front v h =
    rw (length-append, take-append-add (bytes number_width v.number) (payload_bytes v.payload) (length (dump_payload v.payload)), payload_front v.payload h)

module _ (m : Bytes) (s : Shaped m) (j : ℕ) (h : j < length (versions_in m)) where
  abbrev v : Version
  v = version_at j (versions_in m)

  pub record_most_lem : length (dump_version v) ≤ version_width
  record_most_lem = version_most v (version_good m s j h).short

  -- the payload's record was counted, in its cell at p
  pub record_counted : {p n : ℕ} → p ≡ version_base (key_rooms_in m) + version_width * j + number_width → n ≡ length (dump_payload (payload_from (part m p payload_width)))
      → number_width + n ≡ length (dump_version v)
  record_counted e f = rw (length_record v, f, e, payload_told m s j h)

  -- n bytes from p
  pub record_piece : {p n : ℕ} {x : Bytes} → p ≡ version_base (key_rooms_in m) + version_width * j → n ≡ length (dump_version v) → x ≡ part m p n → x ≡ dump_version v
  record_piece {p} {n} e f g =
      let z : p + 0 ≡ p = omega arith in
      let q = part_part m p version_width 0 n (omega (arith, record_most_lem)) in
      g ∙ sym (rw z at q) ∙ rw (e, version_bytes_lem m s j h, f) (record_front v (version_good m s j h).short)

-- ---- records one after the other

pub chain_step : (vs : List Version) (j end : ℕ) → j < end → end ≤ length vs
    → dump_chain (between j end vs) ≡ dump_version (version_at j vs) ++ dump_chain (between (j + 1) end vs)
unfolding dump_chain
chain_step vs j end h l = rw (add-one j, between_cons j end vs h l)

chain_more : (c : Chain) (v : Version) → dump_chain (c ++ v ∷ []) ≡ dump_chain c ++ dump_version v
unfolding dump_chain
chain_more [] v = append-nil (dump_version v)
chain_more (w ∷ c) v = rw (chain_more c v, append_assoc)

pub chain_end : (vs : List Version) (j end : ℕ) → end ≤ j → dump_chain (between j end vs) ≡ []
unfolding dump_chain
chain_end vs j end h = rw (between_none j end vs h)

pub entries_step : (es : List Entry) (i : ℕ) → i < length es → dump_entries (drop i es) ≡ dump_entry (entry_at i es) ++ dump_entries (drop (i + 1) es)
unfolding dump_entries
entries_step es i h = rw (add-one i, drop-cons es i no_entry h)

pub entries_end : (es : List Entry) (i : ℕ) → length es ≤ i → dump_entries (drop i es) ≡ []
unfolding dump_entries
entries_end es i h = rw (drop_of_length-le es h)

pub hall_apart : (h : Hall) → dump_hall h ≡ dump_head h ++ dump_entries h.entries
unfolding dump_hall dump_head
hall_apart h = simp append_assoc

-- the fields before the entries
pub head_apart : (m : Bytes) → Sound m → {k n : ℕ} → k ≡ counter_in m → n ≡ length (keys_in m)
    → dump_head (hall_in m) ≡ magic ++ (bytes number_width (k + 1) ++ bytes count_width n)
unfolding dump_head
head_apart m s {k} e f = rw (add-one k, e, f, keys_counted m s, sound.hall_counter m)

pub hall_counter : (m : Bytes) → Sound m → counter_in m ≤ last_number
unfolding hall_in hall_for
hall_counter m s = (hall_parts (hall_in m) s.hall).counter

-- ---- the record of key row i

-- one version less to come, with z after the chain
pub chain_next : (vs : List Version) (z : Bytes) (j end : ℕ) → j < end → end ≤ length vs
    → dump_chain (between j end vs) ++ z ≡ dump_version (version_at j vs) ++ (dump_chain (between (j + 1) end vs) ++ z)
chain_next vs z j end h l = rw (chain_step vs j end h l) (append_assoc (dump_version (version_at j vs)) (dump_chain (between (j + 1) end vs)) z)

-- none
pub chain_last : (vs : List Version) (z : Bytes) (j end : ℕ) → end ≤ j → dump_chain (between j end vs) ++ z ≡ z ++ []
chain_last vs z j end h = rw (chain_end vs j end h) (sym (append-nil z))

pub length_key_fields : (k : Bytes) (n : ℕ) → length (key_head k n) ≡ count_width + count_width + length k
unfolding key_head
length_key_fields k n = simp (length-append, length_bytes) (omega arith)

-- the key's older versions are rows of a table that is small
abbrev pub RowFew : (m : Bytes) (i : ℕ) → Type 0
RowFew m i =
    (end_before 0 i (keys_in m) ≤ (row_at i (keys_in m)).end)
    × ((length (keys_in m) + (row_at i (keys_in m)).end ≤ length (versions_in m))
    × (length (versions_in m) ≤ max_version_rooms))

module _ (m : Bytes) (s : Sound m) (i : ℕ) (h : i < length (keys_in m)) where
  abbrev rs : List Row
  rs = keys_in m

  abbrev vs : List Version
  vs = versions_in m

  pub row_few : RowFew m i
  row_few =
      let good = (sound.sound_shaped m s).good in
      omega (arith, row_range m s i h, good.versions_fit, good.few_versions)

  pub entry_apart : {n lo hi : ℕ} {k : Bytes} → n ≡ length (keys_in m) → hi ≡ (row_at i (keys_in m)).end → lo ≡ end_before 0 i (keys_in m) → k ≡ (row_at i (keys_in m)).key
      → dump_entry (entry_at i (hall_in m).entries) ≡ key_head k (n + hi - (n + lo) + 1) ++ (dump_chain (between (n + lo) (n + hi) (versions_in m)) ++ dump_version (version_at i (versions_in m)))
  unfolding dump_entry key_head
  entry_apart {n} {lo} {hi} o p q r =
      let g = row_range m s i h in
      let c : Chain = between (length rs + end_before 0 i rs) (length rs + (row_at i rs).end) vs in
      let l : length (c ++ version_at i vs ∷ []) ≡ length rs + (row_at i rs).end - (length rs + end_before 0 i rs) + 1 = simp (length-append, length-take, length-drop) (omega arith) in
      rw (entry_at_lem m s i h, l, chain_more c (version_at i vs), o, p, q, r) (simp append_assoc)

  -- room for the record is room for its first fields, whatever count they say
  pub fields_fit : {k : Bytes} (n : ℕ) → k ≡ (row_at i (keys_in m)).key → length (key_head k n) ≤ length (dump_entry (entry_at i (hall_in m).entries))
  fields_fit {k} n r =
      let e = ap length (entry_apart refl refl refl r) in
      rw (length_key_fields k n) (omega (arith, simp length-append at e, length_key_fields k (length rs + (row_at i rs).end - (length rs + end_before 0 i rs) + 1)))

-- ---- lengths

abbrev pub head_width : ℕ
head_width = magic_width + number_width + count_width

pub length_magic : length magic ≡ magic_width
unfolding magic
length_magic = refl

pub length_head : (h : Hall) → length (dump_head h) ≡ head_width
unfolding dump_head
length_head h = simp (length-append, length_bytes, length_magic)

chain_most : (last top : ℕ) (c : Chain) → sound_chain last top c ≡ true → length (dump_chain c) ≤ version_width * length c
unfolding sound_chain dump_chain
chain_most last top [] s = omega arith
chain_most last top (v ∷ c) s =
    let a = every_all _ s in
    rw length-append (omega (arith, version_most v (payload_short v.payload a.1.1.0), chain_most v.number top c a.1.1.1.0))

-- a key's record without its versions
abbrev pub key_most : ℕ
key_most = count_width + count_width + max_key

entries_most : (last : Bytes) (top : ℕ) (es : List Entry) → sound_entries last top es ≡ true
    → length (dump_entries es) ≤ key_most * length es + version_width * version_count es
unfolding sound_entries dump_entries dump_entry version_count
entries_most last top [] s = omega arith
entries_most last top (e ∷ es) s =
    let a = every_all _ s in
    simp (length-append, length_bytes)
    (omega (arith, (key_parts e.key a.1.0).1, chain_most 0 top e.chain a.1.1.1.0, entries_most e.key top es a.1.1.1.1.0))

abbrev pub dump_most : ℕ
dump_most = head_width + key_most * max_key_rooms + version_width * max_version_rooms

-- by the rooms
pub dump_sized : (h : Hall) → sound_hall h ≡ true → length (dump_hall h) ≤ head_width + key_most * h.key_rooms + version_width * h.version_rooms
dump_sized h s =
    let p = hall_parts h s in
    rw (hall_apart h, length-append)
    (omega (arith, p.keys, p.versions, length_head h, entries_most [] h.counter h.entries (sound_entries_lem h s)))

pub dump_most_lem : (h : Hall) → sound_hall h ≡ true → length (dump_hall h) ≤ dump_most
dump_most_lem h s =
    let z = sound_sizes h s in
    omega (arith, z.keys.1, z.versions.1, dump_sized h s)

entry_part : (es : List Entry) (i : ℕ) → i < length es → length (dump_entry (entry_at i es)) ≤ length (dump_entries es)
unfolding dump_entries
entry_part [] i h = absurd (not-suc-le-zero h)
entry_part (e ∷ es) zero h = rw length-append (omega arith)
entry_part (e ∷ es) (suc i) h = rw length-append (omega (arith, entry_part es i (le_of_suc-le-suc h)))

pub entry_most : (m : Bytes) → Sound m → (i : ℕ) → i < length (keys_in m) → length (dump_entry (entry_at i (hall_in m).entries)) ≤ dump_most
entry_most m s i h =
    let e = ap length (hall_apart (hall_in m)) in
    omega (arith, simp length-append at e, dump_most_lem (hall_in m) s.hall, entry_part (hall_in m).entries i (omega (arith, keys_counted m s)))
