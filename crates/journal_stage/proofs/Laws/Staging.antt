-- A body's writes where they stand: what the dump wrote there is read again.
-- Assumes nothing.
use mathlib.Core.Path.{◌≡◌, refl, sym, ap, ◌∙◌}
use mathlib.Core.List.{[], ◌∷◌, ◌++◌, append_assoc}
use Prim.Native.Nat.{ℕ, suc, ◌+◌, ◌^◌, ◌≤◌, ◌<◌}
use native.Mathlib.Nat.{add-zero}
use native.Mathlib.Omega.{arith}
use lib.ListN.{length, drop, get_or, length-append, length-drop}
use lib.Seq.{drop_at, drop-drop, get_or-drop}
use borrow.Author.Tests.{eq-eqb, ne_eqb}
use Rattle.model.specs.Sizes.{max_value, max_writes, number_width, count_width, tag_width}
use Rattle.model.specs.Bytes.{Bytes, part, num, bytes}
use Rattle.model.specs.State.{Payload, deletion, content, Write, Writes}
use Rattle.model.specs.Dump.{dump_payload}
use Rattle.model.specs.Journal.{Commit, dump_write, dump_writes, dump_body}
use Rattle.memory.proofs.Laws.Numbers.{length_bytes, num_bytes}
use Rattle.memory.proofs.Laws.Parts.{part_mid, part_first}
use Rattle.cells.specs.Cells.{value_place, value_length, payload_from, Short}
use Rattle.desk.specs.Shape.{RoomForWrite, RoomForWrites}
use Rattle.desk_writes.specs.Writes.{deletion_of, value_of}
use Rattle.journal_fields.specs.Places.{writes_in_body}
use Rattle.journal_fields.proofs.Laws.{length_write}
use Rattle.journal_stage.specs.Staging.{key_length_at, write_at, Dumped, writes_from, writes_of, Body}

-- a part of what stands from p on
pub part_drop : (x : Bytes) (p k n : ℕ) → part (drop p x) k n ≡ part x (p + k) n
unfolding part
part_drop x p k n = rw (drop-drop k p x)

-- ---- a payload with anything behind it

tag_one : bytes tag_width 1 ≡ 1 ∷ []
unfolding bytes
tag_one = refl

deletion_front : (rest : Bytes) → dump_payload deletion ++ rest ≡ 0 ∷ rest
unfolding dump_payload bytes
deletion_front rest = refl

-- the fields of a value
content_front : (b rest : Bytes) → dump_payload (content b) ++ rest ≡ 1 ∷ (bytes count_width (length b) ++ (b ++ rest))
unfolding dump_payload
content_front b rest = rw (tag_one, append_assoc (bytes count_width (length b)) b rest)

length_content : (b : Bytes) → length (dump_payload (content b)) ≡ tag_width + count_width + length b
unfolding dump_payload
length_content b = simp (length-append, length_bytes) (omega arith)

length_deletion : length (dump_payload deletion) ≡ tag_width
unfolding dump_payload bytes
length_deletion = refl

payload_some : (p : Payload) → tag_width ≤ length (dump_payload p)
payload_some deletion = omega (arith, length_deletion)
payload_some (content b) = omega (arith, length_content b)

-- its length is read where it stands
value_counted : (b rest : Bytes) → length b ≤ max_value → num (part (dump_payload (content b) ++ rest) tag_width count_width) ≡ length b
value_counted b rest s =
    rw (content_front b rest, part_mid (1 ∷ []) (bytes count_width (length b)) (b ++ rest) tag_width count_width refl (length_bytes count_width (length b)))
    (num_bytes count_width (length b) (omega arith))

payload_front : (p : Payload) (rest : Bytes) → Short p → payload_from (dump_payload p ++ rest) ≡ p
unfolding payload_from value_length
payload_front deletion rest s = rw (deletion_front rest)
payload_front (content b) rest s =
    let n : ℕ = length b in
    let v : part (1 ∷ (bytes count_width n ++ (b ++ rest))) value_place n ≡ b =
    part_mid (1 ∷ bytes count_width n) b rest value_place n (ap suc (length_bytes count_width n)) refl in
    let w = rw (content_front b rest) at (value_counted b rest s) in
    rw (content_front b rest, w, v)

-- ---- a write with anything behind it

module _ (x : Bytes) (at : ℕ) (w : Write) (rest : Bytes) (e : drop at x ≡ dump_write w ++ rest) (r : RoomForWrite w) where
  fields : drop at x ≡ bytes count_width (length w.key) ++ (w.key ++ (dump_payload w.payload ++ rest))
  unfolding dump_write
  fields = e ∙ simp append_assoc

  pub key_counted : num (part x at count_width) ≡ length w.key
  key_counted =
      let z : at + 0 ≡ at = omega arith in
      let g = part_drop x at 0 count_width in
      rw (z, fields, part_first (bytes count_width (length w.key)) (w.key ++ (dump_payload w.payload ++ rest)) count_width (length_bytes count_width (length w.key))) at (ap num (sym g))
      ∙ num_bytes count_width (length w.key) (omega (arith, r.0))

  key_there : part x (at + count_width) (length w.key) ≡ w.key
  key_there =
      sym (part_drop x at count_width (length w.key))
      ∙ rw fields (part_mid (bytes count_width (length w.key)) w.key (dump_payload w.payload ++ rest) count_width (length w.key) (length_bytes count_width (length w.key)) refl)

  pub payload_there : drop (at + count_width + length w.key) x ≡ dump_payload w.payload ++ rest
  payload_there =
      let k : Bytes = w.key in
      let b : Bytes = bytes count_width (length k) in
      let z : at + count_width + length k ≡ at + (count_width + length k) = omega arith in
      let l : length (b ++ k) ≡ count_width + length k = rw (length-append, length_bytes) in
      ap (λ (p : ℕ). drop p x) z ∙ sym (drop-drop (count_width + length k) at x)
      ∙ ap (λ (y : Bytes). drop (count_width + length k) y) (fields ∙ sym (append_assoc b k (dump_payload w.payload ++ rest)))
      ∙ drop_at (b ++ k) (dump_payload w.payload ++ rest) (count_width + length k) l

  pub write_is : write_at x at ≡ w
  unfolding write_at
  write_is = rw (key_counted, key_there, payload_there, payload_front w.payload rest r.1)

  pub after_write : drop (at + length (dump_write w)) x ≡ rest
  after_write = sym (drop-drop (length (dump_write w)) at x) ∙ rw e (drop_at (dump_write w) rest (length (dump_write w)) refl)

  pub inside_write : at + length (dump_write w) ≤ length x
  inside_write =
      omega (arith, length-drop at x, ap length e, length-append (dump_write w) rest, length_write w)

-- ---- as code reads it: a key of n bytes, then a payload

module _ (x : Bytes) (at : ℕ) (s : Dumped x at) {n : ℕ} (e : n ≡ key_length_at x at) where
  abbrev w : Write
  w = write_at x at

  -- where the tag stands
  abbrev p : ℕ
  p = at + count_width + n

  counted : n ≡ length w.key
  counted = e ∙ key_counted x at w s.rest s.bytes s.room

  inside : at + length (dump_write w) ≤ length x
  inside = inside_write x at w s.rest s.bytes s.room

  pub tag_fits : p + tag_width ≤ length x
  tag_fits = omega (arith, inside, counted, length_write w, payload_some w.payload)

  pub key_is : {k : Bytes} → k ≡ part x (at + count_width) n → k ≡ w.key
  unfolding write_at
  key_is f = f ∙ rw e

  tag_told : get_or (drop p x) 0 0 ≡ get_or x p 0
  tag_told = rw (add-zero p) at (get_or-drop p x 0 0)

  module _ (z : get_or x p 0 ≡ 0) where
    deleted : w.payload ≡ deletion
    unfolding write_at payload_from
    deleted = rw (← e, tag_told, eq-eqb (get_or x p 0) 0 z)

    pub deletion_is : {k : Bytes} → k ≡ part x (at + count_width) n → deletion_of k ≡ w
    deletion_is f = λ i. record { key = key_is f i; payload = sym deleted i }

    pub deletion_ends : p + tag_width ≡ at + length (dump_write w)
    deletion_ends =
        let l = ap (λ (p : Payload). length (dump_payload p)) deleted in
        omega (arith, counted, length_write w, length_deletion)

  module _ (z : get_or x p 0 ≡ 0 → ⊥) {len : ℕ} (g : len ≡ num (part x (p + tag_width) count_width)) where
    abbrev held : Bytes
    held = part x (p + tag_width + count_width) len

    holds : w.payload ≡ content held
    unfolding write_at payload_from value_length
    holds =
        let q : p + value_place ≡ p + tag_width + count_width = omega arith in
        let t = part_drop x p tag_width count_width in
        rw (← e, tag_told, ne_eqb (get_or x p 0) 0 z, t, ← g, part_drop x p value_place _, q)

    held_length : len ≡ length held
    held_length =
        let t : drop p x ≡ dump_payload (content held) ++ s.rest =
        ap (λ (n : ℕ). drop (at + count_width + n) x) counted
        ∙ rw holds at (payload_there x at w s.rest s.bytes s.room) in
        g ∙ sym (ap num (part_drop x p tag_width count_width))
        ∙ rw t (value_counted held s.rest (rw holds at s.room.1))

    pub value_ends : p + tag_width + count_width + len ≡ at + length (dump_write w)
    value_ends =
        let l = ap (λ (p : Payload). length (dump_payload p)) holds in
        omega (arith, counted, length_write w, length_content held, held_length)

    pub value_fits_lem : p + tag_width + count_width + len ≤ length x
    value_fits_lem = omega (arith, value_ends, inside)

    pub value_short : {v : Bytes} → v ≡ held → length v ≤ max_value
    value_short f = rw f (rw holds at s.room.1)

    pub value_is : {k v : Bytes} → k ≡ part x (at + count_width) n → v ≡ held → value_of k v ≡ w
    value_is f h = λ i. record { key = key_is f i; payload = (ap content h ∙ sym holds) i }

-- ---- the writes of a body

pub writes_from_lem : (ws : Writes) (at : ℕ) (x : Bytes) → drop at x ≡ dump_writes ws → RoomForWrites ws → writes_from (length ws) at x ≡ ws
unfolding writes_from dump_writes
writes_from_lem [] at x e r = refl
writes_from_lem (v ∷ ws) at x e r =
    let i = write_is x at v (dump_writes ws) e r.0 in
    rw (i, writes_from_lem ws (at + length (dump_write v)) x (after_write x at v (dump_writes ws) e r.0) r.1)

-- the body of a commit has that commit's writes
module _ (x : Bytes) (c : Commit) (e : x ≡ dump_body c) (few : length c.writes ≤ max_writes) (r : RoomForWrites c.writes) where
  parts : x ≡ bytes number_width c.number ++ (bytes count_width (length c.writes) ++ dump_writes c.writes)
  unfolding dump_body
  parts = e

  body_count : num (part x number_width count_width) ≡ length c.writes
  body_count =
      let n : ℕ = length c.writes in
      rw (parts, part_mid (bytes number_width c.number) (bytes count_width n) (dump_writes c.writes) number_width count_width (length_bytes number_width c.number) (length_bytes count_width n))
      (num_bytes count_width n (omega (arith, few)))

  body_rest : drop writes_in_body x ≡ dump_writes c.writes
  body_rest =
      let a : Bytes = bytes number_width c.number in
      let b : Bytes = bytes count_width (length c.writes) in
      ap (λ (y : Bytes). drop writes_in_body y) (parts ∙ sym (append_assoc a b (dump_writes c.writes)))
      ∙ drop_at (a ++ b) (dump_writes c.writes) writes_in_body (rw (length-append, length_bytes, length_bytes))

  pub body_writes : writes_of x ≡ c.writes
  unfolding writes_of
  body_writes = rw body_count (writes_from_lem c.writes writes_in_body x body_rest r)

  pub body_number : c.number < 256 ^ number_width → num (part x 0 number_width) ≡ c.number
  body_number h = rw (parts, part_first (bytes number_width c.number) _ number_width (length_bytes number_width c.number)) (num_bytes number_width c.number h)

  pub body_of : Body x
  body_of = record {
    bytes = rw body_writes body_rest;
    count = rw body_writes (sym body_count);
    few = rw body_writes few;
    room = rw body_writes r;
    long = rw (parts, length-append, length_bytes, length-append, length_bytes) (omega arith);
  }
