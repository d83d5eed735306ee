-- A key and a payload in a cell: what is put in is read, and what is read, put in again, is the cell.
-- Assumes nothing.
use mathlib.Core.Path.{◌≡◌, refl, sym, ap, ◌∙◌}
use mathlib.Core.Bool.{true, ◌&&◌, cond}
use mathlib.Core.List.{[], ◌∷◌, ◌++◌}
use Prim.Native.Nat.{ℕ, suc, ◌+◌, ◌-◌, ◌/◌, ◌≤◌, ◌<◌}
use native.Mathlib.Numerals.{add-one}
use native.Mathlib.Omega.{arith}
use borrow.Author.Tests.{leb-true, le-leb, eqb-true}
use lib.Dec.{leb, eqb}
use lib.ListN.{length, set, get_or, take, drop, length-append, length-drop, take-append-drop}
use lib.Seq.{sets, drop_at, take-nil, length-take-le}
use Rattle.model.specs.Sizes.{max_key, max_value, count_width, tag_width}
use Rattle.model.specs.Bytes.{Bytes, are_bytes, part, num, bytes}
use Rattle.model.specs.State.{Payload, deletion, content}
use Rattle.model.specs.Sound.{value_fits, sound_payload}
use Rattle.model.specs.Dump.{dump_payload}
use Rattle.model.proofs.Cases.{by_bool, zero_one, both, and_intro, and_left, and_right}
use Rattle.memory.specs.Spans.{zeros, padded, all_zero, overlay}
use Rattle.memory.specs.Rows.{joined}
use Rattle.memory.proofs.Laws.Numbers.{length_bytes, num_bytes, are_bytes_part}
use Rattle.memory.proofs.Laws.Parts.{sets_append, part_cons, part_add, part_mid, part_first, length_part, bytes_part}
use Rattle.memory.proofs.Laws.Spans.{zero_step, all_zero_zeros, zeros_of, length_padded}
use Rattle.cells.specs.Cells.{key_width, key_bytes, key_from, is_key_cell, payload_width, value_place, payload_bytes, Short, value_length, payload_from, is_payload_cell, clash_width, clash_bytes, listed}

-- ---- bytes with zeros after them

padded_front : (n : ℕ) (bs : Bytes) → part (padded n bs) 0 (length bs) ≡ bs
unfolding padded
padded_front n bs = part_first bs _ _ refl

padded_rest : (n : ℕ) (bs : Bytes) → all_zero (drop (length bs) (padded n bs)) ≡ true
unfolding padded
padded_rest n bs = rw drop_at (all_zero_zeros (n - length bs))

padded_take : (n k : ℕ) (c : Bytes) → length c ≡ n → k ≤ n → all_zero (drop k c) ≡ true → padded n (take k c) ≡ c
unfolding padded
padded_take n k c e h z =
    let l : length (take k c) ≡ k = length-take-le k c (omega arith) in
    let d : drop k c ≡ zeros (n - k) = zeros_of _ (n - k) (rw (length-drop, e)) z in
    rw (l, ← d) (take-append-drop k c)

-- ---- keys

pub length_key : (k : Bytes) → length k ≤ max_key → length (key_bytes k) ≡ key_width
unfolding key_bytes
length_key k h = rw length_padded

pub key_get : (k : Bytes) → length k ≤ max_key → key_from (key_bytes k) ≡ k
unfolding key_bytes key_from part
key_get k h = padded_front _ k

pub key_cell : (k : Bytes) → length k ≤ max_key → is_key_cell (key_bytes k) ≡ true
unfolding key_bytes is_key_cell
key_cell k h =
    let e : 1 + length k ≡ suc (length k) = omega arith in
    and_intro (le-leb _ _ h) (rw e (padded_rest _ k))

module _ (c : Bytes) (e : length c ≡ key_width) (s : is_key_cell c ≡ true) where
  pub key_fits_lem : get_or c 0 0 ≤ max_key
  unfolding is_key_cell
  key_fits_lem = leb-true _ _ (and_left _ _ s)

  pub key_length_lem : length (key_from c) ≡ get_or c 0 0
  unfolding key_from
  key_length_lem = length_part c 1 _ (omega (arith, key_fits_lem))

  pub key_short : length (key_from c) ≤ max_key
  key_short = rw key_length_lem key_fits_lem

pub key_put : (c : Bytes) → length c ≡ key_width → is_key_cell c ≡ true → key_bytes (key_from c) ≡ c
unfolding key_bytes key_from part is_key_cell
key_put [] e s = zero_one (omega arith)
key_put (n ∷ c) e s =
    let p : 1 + n ≡ suc n = omega arith in
    let z : all_zero (drop n c) ≡ true = rw p at (and_right (leb n max_key) _ s) in
    both (key_length_lem (n ∷ c) e s) (padded_take _ n c (omega arith) (key_fits_lem (n ∷ c) e s) z)

pub length_clash : (c : Bytes × ℕ) → length c.0 ≤ max_key → length (clash_bytes c) ≡ clash_width
unfolding clash_bytes
length_clash c h = rw (length-append, length_bytes, length_key)

-- no clash listed leaves an output as it is
pub nothing_over : (n : ℕ) (out : Bytes) → overlay (listed n []) out ≡ out
unfolding overlay listed joined
nothing_over n out = rw (take-nil {A = Bytes × ℕ} (n / clash_width))

-- ---- payloads

deletion_length : length (dump_payload deletion) ≡ tag_width
unfolding dump_payload bytes
deletion_length = refl

content_length : (b : Bytes) → length (dump_payload (content b)) ≡ value_place + length b
unfolding dump_payload bytes
content_length b = rw (length-append (bytes count_width (length b)) b, length_bytes) (omega arith)

pub record_short : (p : Payload) → Short p → length (dump_payload p) ≤ payload_width
unfolding dump_payload bytes
record_short deletion h = omega arith
record_short (content b) h = rw (content_length b) (omega arith)

pub length_payload : (p : Payload) → Short p → length (payload_bytes p) ≡ payload_width
unfolding payload_bytes
length_payload p h = length_padded _ _ (record_short p h)

pub payload_front : (p : Payload) → Short p → part (payload_bytes p) 0 (length (dump_payload p)) ≡ dump_payload p
unfolding payload_bytes
payload_front p h = padded_front _ _

payload_rest : (p : Payload) → all_zero (drop (length (dump_payload p)) (payload_bytes p)) ≡ true
unfolding payload_bytes
payload_rest p = padded_rest _ (dump_payload p)

pub deletion_bytes : payload_bytes deletion ≡ zeros payload_width
unfolding payload_bytes dump_payload padded bytes
deletion_bytes = refl

-- a value's cell, field by field
pub content_bytes : (b : Bytes) → payload_bytes (content b) ≡ 1 ∷ (bytes count_width (length b) ++ padded max_value b)
unfolding payload_bytes dump_payload padded bytes
content_bytes b =
    let l : length (bytes count_width (length b) ++ b) ≡ count_width + length b = rw (length-append, length_bytes) in
    let e : payload_width - suc (count_width + length b) ≡ max_value - length b = omega arith in
    rw (l, e)

content_tag : (b : Bytes) → get_or (payload_bytes (content b)) 0 0 ≡ 1
content_tag b = rw (content_bytes b)

value_length_lem : (b : Bytes) → length b ≤ max_value → value_length (payload_bytes (content b)) ≡ length b
unfolding value_length
value_length_lem b h =
    let e = part_mid (1 ∷ []) (bytes count_width (length b)) (padded max_value b) _ _ refl (length_bytes _ _) in
    rw (content_bytes b, e) (num_bytes _ _ (omega arith))

value_part : (b : Bytes) → part (payload_bytes (content b)) value_place (length b) ≡ b
unfolding padded
value_part b =
    rw (content_bytes b) (part_mid (1 ∷ bytes count_width (length b)) b _ _ _ (ap suc (length_bytes _ _)) refl)

pub payload_get : (p : Payload) → Short p → payload_from (payload_bytes p) ≡ p
unfolding payload_from
payload_get deletion h = rw deletion_bytes
payload_get (content b) h = rw (content_tag b, value_length_lem, value_part b)

pub payload_cell : (p : Payload) → Short p → is_payload_cell (payload_bytes p) ≡ true
unfolding is_payload_cell
payload_cell deletion h = rw deletion_bytes (all_zero_zeros (payload_width - tag_width))
payload_cell (content b) h =
    rw (content_tag b, value_length_lem b h, le-leb (length b) max_value h) (rw (content_length b) at (payload_rest (content b)))

-- the two kinds of a payload's cell
pub by_payload {ℓ} : {P : Type ℓ} (c : Bytes) → is_payload_cell c ≡ true
    → (get_or c 0 0 ≡ 0 → all_zero (drop tag_width c) ≡ true → payload_from c ≡ deletion → P)
    → (get_or c 0 0 ≡ 1 → value_length c ≤ max_value → all_zero (drop (value_place + value_length c) c) ≡ true → payload_from c ≡ content (part c value_place (value_length c)) → P)
    → P
unfolding payload_from is_payload_cell
by_payload c s f g =
    by_bool _
    (λ t. f (eqb-true _ 0 t) (rw t at s) (rw t))
    (λ t. let u : (eqb (get_or c 0 0) 1 && (leb (value_length c) max_value && all_zero (drop (value_place + value_length c) c))) ≡ true = rw t at s in
    let v = and_right (eqb (get_or c 0 0) 1) _ u in
    g (eqb-true _ 1 (and_left _ _ u))
    (leb-true _ _ (and_left _ (all_zero (drop (value_place + value_length c) c)) v))
    (and_right (leb (value_length c) max_value) _ v)
    (rw t))

-- bytes hold a sound payload
pub payload_all : (c : Bytes) → length c ≡ payload_width → is_payload_cell c ≡ true → are_bytes c ≡ true → sound_payload (payload_from c) ≡ true
unfolding sound_payload value_fits
payload_all c e s a =
    by_payload c s
    (λ t z f. rw f)
    (λ t h z f. rw (f, length_part c value_place (value_length c) (omega arith))
    (and_intro (le-leb _ max_value h) (are_bytes_part c value_place (value_length c) a)))

pub payload_short : (c : Bytes) → length c ≡ payload_width → is_payload_cell c ≡ true → Short (payload_from c)
payload_short c e s =
    by_payload c s (λ t z f. rw f tt) (λ t l z f. rw (f, length_part c value_place (value_length c) (omega arith)) l)

tag_bytes : bytes tag_width 1 ≡ 1 ∷ []
unfolding bytes
tag_bytes = refl

-- a value's cell up to the value's end
content_front : (c : Bytes) → are_bytes c ≡ true → length c ≡ payload_width → get_or c 0 0 ≡ 1 → value_length c ≤ max_value
    → dump_payload (content (part c value_place (value_length c))) ≡ part c 0 (value_place + value_length c)
unfolding dump_payload value_length
content_front c a e t l =
    let p : value_place + num (part c tag_width count_width) ≡ suc (count_width + num (part c tag_width count_width)) = omega arith in
    let q : 0 < length c = omega arith in
    rw (
      tag_bytes,
      length_part c value_place (num (part c tag_width count_width)) (omega arith),
      bytes_part c tag_width count_width a (omega arith),
      p,
      part_cons c 0 (count_width + num (part c tag_width count_width)) q,
      t,
      part_add,
    )

pub payload_put : (c : Bytes) → are_bytes c ≡ true → length c ≡ payload_width → is_payload_cell c ≡ true → payload_bytes (payload_from c) ≡ c
unfolding payload_bytes part
payload_put c a e s =
    by_payload c s
    (λ t z f. rw f (deletion_bytes ∙ sym (zeros_of c _ e (zero_step c 0 (omega arith) ∙ rw (t, z)))))
    (λ t l z f. rw (f, content_front) (padded_take payload_width (value_place + value_length c) c e (omega arith) z))

-- the length of the record in the dump
pub record_length_lem : {b c : Bytes} → b ≡ c → length b ≡ payload_width → is_payload_cell c ≡ true
    → length (dump_payload (payload_from c)) ≡ cond (eqb (get_or b 0 0) 0) tag_width (value_place + value_length b)
record_length_lem {b} q e s =
    rw (← q)
    (by_payload b (rw (← q) at s)
    (λ t z f. rw (f, t, deletion_length))
    (λ t l z f. rw (f, t, content_length, length_part b value_place (value_length b) (omega arith))))

-- ---- cells that were stored

pub key_stored : (m : Bytes) (at : ℕ) (k : Bytes) {m₁ : Bytes} → m₁ ≡ sets (set m at (length k)) (at + 1) (padded max_key k) → m₁ ≡ sets m at (key_bytes k)
unfolding key_bytes
key_stored m at k e = e ∙ rw (add-one at)

pub value_stored : (m : Bytes) (at : ℕ) (b : Bytes) {m₁ m₂ : Bytes} → m₁ ≡ sets (set m at 1) (at + tag_width) (bytes count_width (length b))
    → m₂ ≡ sets m₁ (at + value_place) (padded max_value b)
    → m₂ ≡ sets m at (payload_bytes (content b))
value_stored m at b e f =
    let p : suc at + count_width ≡ at + value_place = omega arith in
    f ∙ rw (e, content_bytes b, sets_append, length_bytes, p, add-one at)
