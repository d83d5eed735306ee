-- The rows of a desk's writes: read, changed, one more put in.
-- Assumes nothing.
use mathlib.Core.Path.{◌≡◌, refl, sym, ap, ◌∙◌, subst}
use mathlib.Core.Bool.{true, false}
use mathlib.Core.List.{List, [], ◌∷◌, map, append-nil}
use Rattle.std.specs.Prelude.{Option, None, Some}
use Rattle.std.specs.declared.cmp.Ordering.TheVariants.{Greater}
use Prim.Native.Nat.{ℕ, suc, ◌+◌, ◌-◌, ◌*◌, ◌≤◌, ◌<◌}
use native.Mathlib.Nat.{add-zero}
use native.Mathlib.Omega.{arith}
use borrow.Author.Tests.{leb-false}
use lib.ListN.{length, get_or, set, length-map, length-set, length-append}
use lib.Seq.{sets, set_at, get_or_at, set-set, get_or-set_same}
use Rattle.model.specs.Sizes.{max_key, max_writes, number_width}
use Rattle.model.specs.Bytes.{Bytes, part, bytes, order}
use Rattle.model.specs.State.{Payload, deletion, Write, Writes, Desk, free, taken, content_of, find, written_keys, put_write, holding, rewriting}
use Rattle.model.specs.Calls.{is_too_many}
use Rattle.model.proofs.Cases.{by_order}
use Rattle.model.proofs.Order.{order_refl, order_eq}
use Rattle.memory.specs.Spans.{zeros, padded}
use Rattle.memory.specs.Rows.{rows, joined, insert_at}
use Rattle.memory.proofs.Laws.Each.{each_at, each_set, each_insert_at, each_append}
use Rattle.memory.proofs.Laws.Numbers.{length_bytes}
use Rattle.memory.proofs.Laws.Parts.{sets_append, sets_front}
use Rattle.memory.proofs.Laws.Spans.{store_padded}
use Rattle.memory.proofs.Laws.Rows.{insert_at_seam, get_d_map, map_set, map_insert_at, length_insert_at, insert_row}
use Rattle.cells.specs.Cells.{key_width, key_bytes, key_from, is_key_cell, payload_width, payload_bytes, is_payload_cell, Short}
use Rattle.cells.specs.Rows.{Ascending, KeyRows, Seekable, keys_at, place_of}
use Rattle.cells.specs.Values.{value_in, bytes_at, Inside}
use Rattle.memory.specs.declared.spans.Span.{Span}
use Rattle.cells.proofs.Laws.Cells.{length_key, key_get, key_cell, length_payload, payload_get, payload_cell}
use Rattle.cells.proofs.Laws.Rows.{next, place_next}
use Rattle.cells.proofs.Laws.Rows as coded
use Rattle.cells.proofs.Laws.Values.{value_shown, value_inside}
use Rattle.desk.specs.Layout.{desk_place, write_place, write_width, write_count_place, writes_place, desk_width, write_bytes, desk_bytes, desks_in, put_desks}
use Rattle.desk.specs.Shape.{payload_place, RoomForWrite, RoomForWrites, RoomForDesk, RoomFor, Shaped, desk_in, own_writes, IsTaken, reseat}
use Rattle.desk_writes.specs.Writes.{no_write, write_at, write_in, rewritten, overwritten, deletion_of, ending, Written, Open, Changeable, Insertable, Writable, Appendable, Appended, Deleted}
use Rattle.cells.specs.declared.rows.Place.{Place}
use Rattle.cells.specs.declared.rows.Place.TheVariants.{At, Before}
use Rattle.desk.proofs.Laws.Within.{sets_back, store_within, rows_part}
use Rattle.desk.proofs.Laws.Layout.{length_write, write_key, write_payload, sized_writes, length_writes, front, length_front, front_parts, desk_parts, desk_rows, desks_get, put_shaped, put_then}
use Rattle.desk.proofs.Laws.Shaped.{desk_within, desk_part, desk_changed, room_changed}
use Rattle.desk.proofs.Laws.Desks.{room_in_lem}

-- ---- a write of the list

pub few_writes : (x : Desk) → RoomForDesk x → length (own_writes x) ≤ max_writes
few_writes free r = omega arith
few_writes (taken x) r = r.1.0

own_room : (x : Desk) → RoomForDesk x → RoomForWrites (own_writes x)
own_room free r = tt
own_room (taken x) r = r.1.1

-- ---- rows read

key_first : (w : Write) → RoomForWrite w → part (write_bytes w) 0 key_width ≡ key_bytes w.key
key_first w r = write_key w r.0 r.1

own_rows : (x : Desk) → RoomForDesk x → rows (desk_bytes x) writes_place write_width (length (own_writes x)) ≡ map write_bytes (own_writes x)
unfolding rows
own_rows free r = refl
own_rows (taken x) r = desk_rows x r

module _ (m : Bytes) (s : Shaped m) (d : ℕ) (h : d < length (desks_in m)) where
  abbrev own : Writes
  own = own_writes (desk_in m d)

  pub own_fits : RoomForWrites own
  own_fits = own_room (desk_in m d) (room_in_lem m s d h)

  pub few : length own ≤ max_writes
  few = few_writes (desk_in m d) (room_in_lem m s d h)

  pub rows_in : rows m (desk_place d + writes_place) write_width (length own) ≡ map write_bytes own
  rows_in = sym (rows_part m _ desk_width _ _ _ (omega (arith, few))) ∙ rw desk_part (own_rows _ (room_in_lem m s d h))

  -- the keys of the n rows that the desk tells of, and one sought among them
  module _ {n : ℕ} (e : n ≡ length own) where
    pub keyed : KeyRows m (desk_place d + writes_place) write_width n
    keyed =
        rw e (coded.key_rows_lem _ m _ _ own rows_in _ (λ (w : Write). w.key) (λ w r. r.0) key_first own_fits
        (omega arith) (omega (arith, few, desk_within m s d h)))

    pub keys_told : keys_at m (desk_place d + writes_place) write_width n ≡ written_keys own
    keys_told = rw e (coded.keys_are _ m _ _ own rows_in _ (λ (w : Write). w.key) (λ w r. r.0) key_first own_fits)

    pub seekable : Ascending (written_keys own) → Seekable m (desk_place d + writes_place) write_width n
    seekable a = record { rows = keyed; ascend = rw keys_told a }

    pub sought : (k : Bytes) {p : Place} → p ≡ place_of k 0 (keys_at m (desk_place d + writes_place) write_width n) → p ≡ place_of k 0 (written_keys own)
    sought k f = f ∙ ap (place_of k 0) keys_told

  module _ (i : ℕ) (l : i < length own) where
    pub write_room : (length (write_in m d i).key ≤ max_key) × Short (write_in m d i).payload
    write_room = each_at RoomForWrite own i no_write own_fits l

    field_in : (k n : ℕ) → k + n ≤ write_width → part m (write_place d i + k) n ≡ part (write_bytes (write_in m d i)) k n
    field_in = coded.field_coded _ m _ _ own rows_in i _ l

    pub key_cell_in : part m (write_place d i) key_width ≡ key_bytes (write_in m d i).key
    key_cell_in = rw add-zero at (field_in 0 key_width (omega arith)) ∙ key_first _ write_room

    pub payload_cell_in : part m (payload_place d i) payload_width ≡ payload_bytes (write_in m d i).payload
    payload_cell_in = field_in _ payload_width (omega arith) ∙ write_payload _ write_room.0 write_room.1

-- write i of desk d, at its row's place
module _ (m : Bytes) (d i : ℕ) (w : Written m d i) where
  row_below : i < max_writes
  row_below = omega (arith, few m w.shaped d w.below, w.row)

  pub row_named : (d < 256) × (i ≤ max_writes)
  row_named = (omega arith, omega (arith, row_below))

  row_fits_lem : write_place d i + write_width ≤ length m
  row_fits_lem = omega (arith, row_below, desk_within m w.shaped d w.below)

  room : (length (write_in m d i).key ≤ max_key) × Short (write_in m d i).payload
  room = write_room m w.shaped d w.below i w.row

  module _ {at : ℕ} (e : at ≡ write_place d i) where
    key_cell_at : part m at key_width ≡ key_bytes (write_in m d i).key
    key_cell_at = rw e (key_cell_in m w.shaped d w.below i w.row)

    pub key_ready : (at + key_width ≤ length m) × (is_key_cell (part m at key_width) ≡ true)
    key_ready = (omega (arith, row_fits_lem), rw key_cell_at (key_cell (write_in m d i).key room.0))

    pub key_read : key_from (part m at key_width) ≡ (write_in m d i).key
    key_read = rw key_cell_at (key_get (write_in m d i).key room.0)

  module _ {at : ℕ} (e : at ≡ payload_place d i) where
    pub payload_cell_at : part m at payload_width ≡ payload_bytes (write_in m d i).payload
    payload_cell_at = rw e (payload_cell_in m w.shaped d w.below i w.row)

    pub payload_fits_lem : at + payload_width ≤ length m
    payload_fits_lem = omega (arith, row_fits_lem)

    pub payload_ready : (at + payload_width ≤ length m) × (is_payload_cell (part m at payload_width) ≡ true)
    payload_ready = (payload_fits_lem, rw payload_cell_at (payload_cell (write_in m d i).payload room.1))

    pub value_read : {v : Option Span} → v ≡ value_in at (part m at payload_width)
        → (bytes_at m v ≡ content_of (write_in m d i).payload) × Inside m v
    value_read q =
        let p = payload_ready in
        rw q (
          value_shown m at p.0 p.1 ∙ rw (payload_cell_at, payload_get (write_in m d i).payload room.1),
          value_inside m at p.0 p.1,
        )

-- ---- where a key stands

pub record Present (k : Bytes) (ws : Writes) (i : ℕ) : Type 0 where
  pub below : i < length ws
  pub key : (write_at ws i).key ≡ k
  pub payload : find k ws ≡ Some (write_at ws i).payload
  pub puts : (p : Payload) → put_write k p ws ≡ set ws i (record { key = k; payload = p })

pub record Absent (k : Bytes) (ws : Writes) (i : ℕ) : Type 0 where
  pub up_to : i ≤ length ws
  pub nothing : find k ws ≡ None
  pub puts : (p : Payload) → put_write k p ws ≡ insert_at i (record { key = k; payload = p }) ws

-- what is known at each place
abbrev pub Known : Bytes → Writes → Place → Type 0
Known k ws (At i) = Present k ws i
Known k ws (Before i) = Absent k ws i

known_next : (k : Bytes) (w : Write) (ws : Writes) (q : Place) → order k w.key ≡ Greater → Known k ws q → Known k (w ∷ ws) (next q)
unfolding find put_write insert_at
known_next k w ws (At i) o r =
    record { below = omega arith; key = r.key; payload = rw o r.payload; puts = λ p. rw (o, r.puts p) }
known_next k w ws (Before i) o r =
    record { up_to = omega arith; nothing = rw o r.nothing; puts = λ p. rw (o, r.puts p) }

pub known : (k : Bytes) (ws : Writes) → Known k ws (place_of k 0 (written_keys ws))
unfolding place_of find put_write insert_at
known k [] = record { up_to = omega arith; nothing = refl; puts = λ p. refl }
known k (w ∷ ws) =
    by_order (order k w.key)
    (λ q. rw q (record { up_to = omega arith; nothing = rw q; puts = λ p. rw q }))
    (λ q. rw q (record { below = omega arith; key = sym (order_eq k _ q); payload = rw q; puts = λ p. rw q }))
    (λ q. rw (q, place_next k 0 (written_keys ws)) (known_next k w ws (place_of k 0 (written_keys ws)) q (known k ws)))

pub told : (k : Bytes) (ws : Writes) (q : Place) {r : Place} → r ≡ place_of k 0 (written_keys ws) → r ≡ q → Known k ws q
told k ws q e f = subst (λ (p : Place). Known k ws p) (sym e ∙ f) (known k ws)

-- a key that has its write stays with it
pub put_again : (k : Bytes) (p q : Payload) (ws : Writes) → put_write k p (put_write k q ws) ≡ put_write k p ws
unfolding put_write
put_again k p q [] = rw (order_refl k)
put_again k p q (w ∷ ws) =
    by_order (order k w.key)
    (λ o. rw (o, order_refl k))
    (λ o. rw (o, order_refl k))
    (λ o. rw (o, o, put_again k p q ws))

pub room_left : (k : Bytes) (ws : Writes) → is_too_many k ws ≡ false → find k ws ≡ None → length ws < max_writes
unfolding is_too_many
room_left k ws e f = leb-false _ _ (rw f at e)

-- ---- one write changed, one more

payload_over : (w : Write) (p : Payload) → length w.key ≤ max_key → Short w.payload → Short p
    → sets (write_bytes w) key_width (payload_bytes p) ≡ write_bytes (record { key = w.key; payload = p })
unfolding write_bytes
payload_over w p h s r =
    sets_back (key_bytes w.key) _ _ _ (length_key _ h) (length_payload _ s ∙ sym (length_payload p r))

-- the payload of row i stored over
payload_row : (x : Desk) → IsTaken x → RoomForDesk x → (i : ℕ) (p : Payload) → Short p → i < length (own_writes x)
    → sets (desk_bytes x) (writes_place + write_width * i + key_width) (payload_bytes p) ≡ desk_bytes (reseat (rewriting (overwritten i p)) x)
unfolding padded
payload_row free o r i p h l = absurd o
payload_row (taken x) o r i p h l =
    let t : ℕ = x.start in
    let ws : Writes = x.writes in
    let v : Write = record { key = (write_at ws i).key; payload = p } in
    let a = each_at RoomForWrite ws i no_write r.1.1 l in
    let rs : List Bytes = map write_bytes ws in
    let j : length (joined (map write_bytes (set ws i v))) ≡ length (joined rs) =
    rw (length_writes (set ws i v) (each_set RoomForWrite ws i v r.1.1 (a.0, h)), length_writes ws r.1.1, length-set) in
    let f : length (payload_bytes p) ≡ payload_width = length_payload p h in
    let b : i < length rs = rw length-map l in
    let g : sets (get_or rs i []) key_width (payload_bytes p) ≡ write_bytes v =
    rw (get_d_map write_bytes ws i no_write [] l) (payload_over _ p a.0 a.1 h) in
    rw (desk_parts x, desk_parts, length-set, j, map_set)
    (store_within _ rs i (front t (length ws)) (zeros (write_width * max_writes - length (joined rs))) writes_place
    (length_front t (length ws)) (sized_writes ws r.1.1) b key_width (payload_bytes p) (write_bytes v) (omega arith)
    (length_write v a.0 h) g)

-- the count and all rows stored over, none of them fewer
rows_over : (x : Desk) → IsTaken x → RoomForDesk x → (f : Writes → Writes) → RoomForWrites (f (own_writes x)) → length (own_writes x) ≤ length (f (own_writes x)) → length (f (own_writes x)) ≤ max_writes
    → sets (desk_bytes x) write_count_place (length (f (own_writes x)) ∷ joined (map write_bytes (f (own_writes x)))) ≡ desk_bytes (reseat (rewriting f) x)
unfolding desk_bytes
rows_over free o r f q h l = absurd o
rows_over (taken x) o r f q h l =
    let t : ℕ = x.start in
    let n : ℕ = length x.writes in
    let vs : Writes = f x.writes in
    let old : Bytes = joined (map write_bytes x.writes) in
    let new : Bytes = joined (map write_bytes vs) in
    let a : length old ≡ write_width * n = length_writes x.writes r.1.1 in
    let b : length new ≡ write_width * length vs = length_writes vs q in
    ap (λ (z : Bytes). sets z writes_place new)
    (set_at (bytes number_width t) n _ (length vs) _ (length_bytes _ t) ∙ front_parts t _ _)
    ∙ simp append-nil at (store_padded (front t (length vs)) old [] new 0 (write_width * max_writes) writes_place (length_front t (length vs)) (omega arith) (omega arith))
    ∙ sym (front_parts t (length vs) (padded (write_width * max_writes) new))

own_with : (f : Writes → Writes) (x : Desk) → IsTaken x → own_writes (reseat (rewriting f) x) ≡ f (own_writes x)
own_with f free i = absurd i
own_with f (taken y) i = refl

taken_with : (f : Writes → Writes) (x : Desk) → IsTaken x → IsTaken (reseat (rewriting f) x)
taken_with f free i = i
taken_with f (taken y) i = i

room_with : (f : Writes → Writes) (x : Desk) → RoomForDesk x → length (f (own_writes x)) ≤ max_writes → RoomForWrites (f (own_writes x)) → RoomForDesk (reseat (rewriting f) x)
room_with f free r l w = tt
room_with f (taken y) r l w = (r.0, (l, w))

-- the two cells of a row stored, one after the other
cells_stored : (m : Bytes) {m₁ m₂ : Bytes} (at : ℕ) (k : Bytes) (p : Payload) → length k ≤ max_key → m₁ ≡ sets m at (key_bytes k) → m₂ ≡ sets m₁ (at + key_width) (payload_bytes p)
    → m₂ ≡ sets m at (write_bytes (record { key = k; payload = p }))
unfolding write_bytes
cells_stored m at k p h b c = c ∙ rw (b, sets_append m at (key_bytes k) (payload_bytes p), length_key)

module _ (m : Bytes) (d : ℕ) (o : Open m d) where
  room_open : RoomForDesk (desk_in m d)
  room_open = room_in_lem m o.shaped d o.below

  few_open : length (own_writes (desk_in m d)) ≤ max_writes
  few_open = few_writes (desk_in m d) room_open

  rooms_open : RoomForWrites (own_writes (desk_in m d))
  rooms_open = own_room (desk_in m d) room_open

  -- desk d with other writes, by a store into its bytes
  writes_stored : (f : Writes → Writes) (k : ℕ) (bs : Bytes) → k + length bs ≤ desk_width → length (f (own_writes (desk_in m d))) ≤ max_writes → RoomForWrites (f (own_writes (desk_in m d)))
      → sets (desk_bytes (desk_in m d)) k bs ≡ desk_bytes (reseat (rewriting f) (desk_in m d)) → sets m (desk_place d + k) bs ≡ put_desks m (rewritten d f (desks_in m))
  writes_stored f k bs h l r g =
      desk_changed m o.shaped d o.below k bs _ o.is_open (taken_with f (desk_in m d) o.is_open)
      (room_with f (desk_in m d) room_open l r) h g

  pub payload_stored : {m₁ : Bytes} (i : ℕ) (p : Payload) → Short p → i < length (own_writes (desk_in m d))
      → m₁ ≡ sets m (payload_place d i) (payload_bytes p)
      → m₁ ≡ put_desks m (rewritten d (overwritten i p) (desks_in m))
  payload_stored i p h l e =
      let x : Desk = desk_in m d in
      let ws : Writes = own_writes x in
      let v : Write = record { key = (write_at ws i).key; payload = p } in
      let k : payload_place d i ≡ desk_place d + (writes_place + write_width * i + key_width) = omega arith in
      let n : length (payload_bytes p) ≡ payload_width = length_payload p h in
      e ∙ ap (λ (q : ℕ). sets m q (payload_bytes p)) k
      ∙ writes_stored _ _ (payload_bytes p) (omega (arith, few_open)) (rw length-set few_open)
      (each_set RoomForWrite ws i v rooms_open ((each_at RoomForWrite ws i no_write rooms_open l).0, h))
      (payload_row x o.is_open room_open i p h l)

  -- a gap opened before row i, the write's cells stored in it, the count raised
  pub write_inserted : {m₁ m₂ m₃ : Bytes} {n at end pay : ℕ} (i : ℕ) (k : Bytes) (p : Payload)
      → length k ≤ max_key → Short p → n ≡ length (own_writes (desk_in m d)) → n < max_writes → i ≤ n
      → at ≡ write_place d i → end ≡ write_place d n → pay ≡ payload_place d i
      → m₁ ≡ sets m (at + write_width) (part m at (end - at)) → m₂ ≡ sets m₁ at (key_bytes k)
      → m₃ ≡ sets m₂ pay (payload_bytes p)
      → set m₃ (desk_place d + write_count_place) (n + 1) ≡ put_desks m (rewritten d (insert_at i (record { key = k; payload = p })) (desks_in m))
  write_inserted {m₁} {m₂} {m₃} {n} i k p h s e l u at≡ end≡ pay≡ a b c =
      let x : Desk = desk_in m d in
      let ws : Writes = own_writes x in
      let w : Write = record { key = k; payload = p } in
      let vs : Writes = insert_at i w ws in
      let new : Bytes = joined (map write_bytes vs) in
      let base : ℕ = desk_place d + writes_place in
      let count : ℕ = desk_place d + write_count_place in
      let rs : rows m base write_width n ≡ map write_bytes ws = ap (λ (j : ℕ). rows m base write_width j) e ∙ rows_in m o.shaped d o.below in
      let room : RoomForWrites vs = each_insert_at RoomForWrite i w ws (h, s) rooms_open in
      let lv : length vs ≡ suc (length ws) = length_insert_at i w ws in
      let ln : length new ≡ write_width * length vs = length_writes vs room in
      let fit : desk_place d + desk_width ≤ length m = desk_within m o.shaped d o.below in
      let g : m₃ ≡ sets m base new =
      insert_row m base _ n i (omega arith) (write_bytes w) (length_write w h s) u (a ∙ rw (at≡, end≡))
      (cells_stored m₁ (write_place d i) k p h (b ∙ rw at≡) (c ∙ rw pay≡)) ∙ rw (rs, map_insert_at write_bytes i w ws) in
      let q : base ≡ count + 1 = omega arith in
      let v : n + 1 ≡ length vs = omega arith in
      rw (g, q, v) (sets_front m count (length vs ∷ []) new)
      ∙ writes_stored (insert_at i w) write_count_place (length vs ∷ new) (omega arith) (omega arith) room (rows_over x o.is_open room_open (insert_at i w) room (omega arith) (omega arith))

-- ---- a desk with other writes

with_same : (f g : Writes → Writes) (x : Desk) → f (own_writes x) ≡ g (own_writes x) → reseat (rewriting f) x ≡ reseat (rewriting g) x
with_same f g free e = refl
with_same f g (taken y) e = ap (λ (ws : Writes). taken (holding ws y)) e

with_with : (f g : Writes → Writes) (x : Desk) → reseat (rewriting g) (reseat (rewriting f) x) ≡ reseat (rewriting (λ ws. g (f ws))) x
with_with f g free = refl
with_with f g (taken y) = refl

pub rewritten_same : (d : ℕ) (f g : Writes → Writes) (ds : List Desk) → f (own_writes (get_or ds d free)) ≡ g (own_writes (get_or ds d free)) → rewritten d f ds ≡ rewritten d g ds
rewritten_same d f g ds e = ap (λ (x : Desk). set ds d x) (with_same f g (get_or ds d free) e)

pub rewritten_twice : (d : ℕ) (f g : Writes → Writes) (ds : List Desk) → d < length ds → rewritten d g (rewritten d f ds) ≡ rewritten d (λ ws. g (f ws)) ds
rewritten_twice d f g ds h =
    set-set ds d _ _ ∙ ap (λ (x : Desk). set ds d x) (ap (reseat (rewriting g)) (get_or-set_same ds d (reseat (rewriting f) (get_or ds d free)) free h) ∙ with_with f g (get_or ds d free))

-- the memory n in which desk d of m has other writes
module _ (m : Bytes) (d : ℕ) (o : Open m d) (f : Writes → Writes) (l : length (f (own_writes (desk_in m d))) ≤ max_writes) (w : RoomForWrites (f (own_writes (desk_in m d))))
    {n : Bytes} (e : n ≡ put_desks m (rewritten d f (desks_in m))) where
  pub room_after : RoomFor (rewritten d f (desks_in m))
  room_after = room_changed _ d _ (room_with f (desk_in m d) (room_in_lem m o.shaped d o.below) l w) o.shaped.room

  desks_after : desks_in n ≡ rewritten d f (desks_in m)
  desks_after = rw e (desks_get m _ room_after)

  desk_after_lem : desk_in n d ≡ reseat (rewriting f) (desk_in m d)
  desk_after_lem = ap (λ (ds : List Desk). get_or ds d free) desks_after ∙ get_or-set_same (desks_in m) d (reseat (rewriting f) (desk_in m d)) free o.below

  pub own_after : own_writes (desk_in n d) ≡ f (own_writes (desk_in m d))
  own_after = ap (λ (x : Desk). own_writes x) desk_after_lem ∙ own_with f (desk_in m d) o.is_open

  pub open_after : Open n d
  open_after =
      record {
        shaped = rw e (put_shaped m _ room_after (rw length-set o.shaped.long));
        below = rw (desks_after, length-set) o.below;
        is_open = subst (λ (x : Desk). IsTaken x) (sym desk_after_lem) (taken_with f (desk_in m d) o.is_open);
      }

  -- and that desk then others again
  pub rewritten_then : (g h : Writes → Writes) {n₁ : Bytes} → n₁ ≡ put_desks n (rewritten d g (desks_in n)) → g (f (own_writes (desk_in m d))) ≡ h (own_writes (desk_in m d))
      → n₁ ≡ put_desks m (rewritten d h (desks_in m))
  rewritten_then g h b same =
      put_then m _ room_after (rewritten d g) (length-set (rewritten d f (desks_in m)) d _) e b
      ∙ ap (put_desks m) (rewritten_twice d f g (desks_in m) o.below ∙ rewritten_same d (λ ws. g (f ws)) h (desks_in m) same)

-- write i changed in its row
module _ (m : Bytes) (d i : ℕ) (w : Changeable m d i) where
  pub changed_row : Written m d i
  changed_row = record { shaped = w.is_open.shaped; below = w.is_open.below; row = w.row }

  pub payload_set : {n : Bytes} {at : ℕ} (p : Payload) → Short p → at ≡ payload_place d i
      → n ≡ sets m at (payload_bytes p)
      → n ≡ put_desks m (rewritten d (overwritten i p) (desks_in m))
  payload_set p s g b = payload_stored m d w.is_open i p s w.row (b ∙ rw g)

-- ---- a write put

abbrev row_of : Place → ℕ
row_of (At i) = i
row_of (Before i) = i

place_put : (k : Bytes) (p : Payload) (j : ℕ) (ws : Writes) → place_of k j (written_keys (put_write k p ws)) ≡ At (row_of (place_of k j (written_keys ws)))
unfolding place_of put_write
place_put k p j [] = rw (order_refl k)
place_put k p j (w ∷ ws) =
    by_order (order k w.key)
    (λ q. rw (q, order_refl k))
    (λ q. rw (q, order_refl k))
    (λ q. rw (q, q, place_put k p (suc j) ws))

room_put_write : (k : Bytes) (p : Payload) (ws : Writes) → length k ≤ max_key → Short p → RoomForWrites ws → RoomForWrites (put_write k p ws)
unfolding put_write
room_put_write k p [] h s r = ((h, s), tt)
room_put_write k p (w ∷ ws) h s r =
    by_order (order k w.key)
    (λ q. rw q ((h, s), r))
    (λ q. rw q ((h, s), r.1))
    (λ q. rw q (r.0, room_put_write k p ws h s r.1))

few_put : (k : Bytes) (p : Payload) (ws : Writes) → is_too_many k ws ≡ false → length ws ≤ max_writes → length (put_write k p ws) ≤ max_writes
few_put k p ws e l = go (place_of k 0 (written_keys ws)) (known k ws)
  where
    go : (q : Place) → Known k ws q → length (put_write k p ws) ≤ max_writes
    go (At i) a = rw (a.puts p, length-set) l
    go (Before i) a = rw (a.puts p, length_insert_at) (room_left k ws e a.nothing)

module _ (m : Bytes) (d : ℕ) (k : Bytes) (w : Writable m d k) where
  abbrev mine : Writes
  mine = own_writes (desk_in m d)

  module _ {q : Place} (i : ℕ) (e : q ≡ place_of k 0 (written_keys mine)) where
    pub found_at : q ≡ At i → Written m d i
    found_at f = record { shaped = w.is_open.shaped; below = w.is_open.below; row = (told k mine (At i) e f).below }

    pub insertable : q ≡ Before i → Insertable m d i k
    insertable f =
        let a : Absent k mine i = told k mine (Before i) e f in
        record { is_open = w.is_open; short = w.short; row = a.up_to; left = room_left k mine w.room a.nothing }

    row_put : {j : ℕ} → row_of q ≡ j → place_of k 0 (written_keys (put_write k deletion mine)) ≡ At j
    row_put f = place_put k _ 0 mine ∙ rw (← e, f)

    pub deleted_over : {n : Bytes} {at : ℕ} → q ≡ At i → at ≡ payload_place d i → n ≡ sets m at (payload_bytes deletion)
        → Deleted m d k i n
    deleted_over f g p =
        let a : Present k mine i = told k mine (At i) e f in
        record {
          after = payload_stored m d w.is_open i deletion tt a.below (p ∙ rw g) ∙ ap (put_desks m) (rewritten_same d _ (put_write k deletion) (desks_in m) (rw (a.key, a.puts deletion)));
          row = row_put (ap row_of f);
        }

    pub deleted_new : {n : Bytes} → q ≡ Before i → n ≡ put_desks m (rewritten d (insert_at i (deletion_of k)) (desks_in m)) → Deleted m d k i n
    deleted_new f p =
        let a : Absent k mine i = told k mine (Before i) e f in
        record {
          after = p ∙ ap (put_desks m) (rewritten_same d _ _ (desks_in m) (sym (a.puts deletion)));
          row = row_put (ap row_of f);
        }

  -- after a deletion in row i, its payload stored over
  module _ {n : Bytes} (i : ℕ) (a : Deleted m d k i n) where
    few_after : length (put_write k deletion mine) ≤ max_writes
    few_after = few_put k _ mine w.room (few m w.is_open.shaped d w.is_open.below)

    rooms_after : RoomForWrites (put_write k deletion mine)
    rooms_after =
        room_put_write k _ mine w.short tt
        (own_room (desk_in m d) (room_in_lem m w.is_open.shaped d w.is_open.below))

    still_open_lem : Open n d
    still_open_lem = open_after m d w.is_open _ few_after rooms_after a.after

    still_own : own_writes (desk_in n d) ≡ put_write k deletion mine
    still_own = own_after m d w.is_open _ few_after rooms_after a.after

    there : Present k (put_write k deletion mine) i
    there = told k (put_write k deletion mine) (At i) refl a.row

    pub changeable_after : Changeable n d i
    changeable_after = record { is_open = still_open_lem; row = rw still_own there.below }

    pub put_over : {n₁ : Bytes} (p : Payload) → n₁ ≡ put_desks n (rewritten d (overwritten i p) (desks_in n)) → n₁ ≡ put_desks m (rewritten d (put_write k p) (desks_in m))
    put_over p b =
        let f : Writes → Writes = put_write k deletion in
        let same : overwritten i p (f mine) ≡ put_write k p mine =
        ap (λ (x : Bytes). set (f mine) i (record { key = x; payload = p })) there.key ∙ sym (there.puts p)
        ∙ put_again k p _ mine in
        rewritten_then m d w.is_open f few_after rooms_after a.after _ _ b same

-- ---- a write behind the others

module _ (m : Bytes) (d : ℕ) (k : Bytes) (w : Appendable m d k) where
  abbrev held : Writes
  held = own_writes (desk_in m d)

  -- before the row behind the last is behind the last
  pub behind : {i : ℕ} {n : Bytes} → i ≡ length (own_writes (desk_in m d)) → n ≡ put_desks m (rewritten d (insert_at i (deletion_of k)) (desks_in m))
      → Appended m d (deletion_of k) i n
  behind {i} e p =
      let x : Write = deletion_of k in
      record {
        after =
            p ∙ ap (put_desks m) (rewritten_same d _ _ (desks_in m)
            (ap (λ (j : ℕ). insert_at j x held) e ∙ rw append-nil at (insert_at_seam held [] x)));
        row = e;
      }

  module _ {n : Bytes} (i : ℕ) (a : Appended m d (deletion_of k) i n) where
    few_behind : length (ending (deletion_of k) held) ≤ max_writes
    few_behind = rw length-append (omega arith)

    rooms_behind : RoomForWrites (ending (deletion_of k) held)
    rooms_behind =
        each_append RoomForWrite held _ (own_fits m w.is_open.shaped d w.is_open.below) ((w.short, tt), tt)

    open_behind : Open n d
    open_behind = open_after m d w.is_open _ few_behind rooms_behind a.after

    own_behind : own_writes (desk_in n d) ≡ ending (deletion_of k) held
    own_behind = own_after m d w.is_open _ few_behind rooms_behind a.after

    pub changeable_behind : Changeable n d i
    changeable_behind = record { is_open = open_behind; row = rw (own_behind, length-append) (omega arith) }

    pub value_behind : {n₁ : Bytes} (p : Payload) → n₁ ≡ put_desks n (rewritten d (overwritten i p) (desks_in n)) → n₁ ≡ put_desks m (rewritten d (ending (record { key = k; payload = p })) (desks_in m))
    value_behind p b =
        let f : Writes → Writes = ending (deletion_of k) in
        let x : write_at (f held) i ≡ deletion_of k = get_or_at held (deletion_of k) [] no_write i (sym a.row) in
        let same : overwritten i p (f held) ≡ ending (record { key = k; payload = p }) held =
        ap (λ (y : Write). set (f held) i (record { key = y.key; payload = p })) x ∙ set_at held (deletion_of k) [] (record { key = k; payload = p }) i (sym a.row) in
        rewritten_then m d w.is_open f few_behind rooms_behind a.after _ _ b same
