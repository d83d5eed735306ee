-- Desks in a memory: what is put in is read, and one desk changed is a store into its row.
-- Assumes nothing.
use mathlib.Core.Path.{◌≡◌, refl, sym, ap, ◌∙◌}
use mathlib.Core.List.{List, [], ◌∷◌, ◌++◌, map, append_assoc, append-nil}
use Prim.Native.Nat.{ℕ, suc, ◌*◌, ◌/◌, ◌^◌, ◌≤◌, ◌<◌}
use native.Mathlib.Omega.{arith}
use lib.ListN.{length, get_or, drop, length-append, length-drop, length-map, length-replicate}
use lib.Seq.{drop_at, get_or_at}
use Rattle.model.specs.Sizes.{max_key, max_writes, number_width}
use Rattle.model.specs.Bytes.{Bytes, part, bytes}
use Rattle.model.specs.State.{Write, Writes, Transaction, Desk, free, taken}
use Rattle.memory.specs.Spans.{padded}
use Rattle.memory.specs.Rows.{rows, joined, Sized, Each}
use Rattle.memory.proofs.Laws.Numbers.{length_bytes, num_bytes}
use Rattle.memory.proofs.Laws.Parts.{part_first, part_skip, part_all}
use Rattle.memory.proofs.Laws.Rows.{length_rows, length_joined, rows_mid}
use Rattle.memory.proofs.Laws.Each.{each_get, sized_table, length_table, length_region, region_rows}
use Rattle.cells.specs.Cells.{key_width, key_bytes, payload_width, payload_bytes, Short}
use Rattle.cells.proofs.Laws.Cells.{length_key, key_get, length_payload, payload_get}
use Rattle.desk.specs.Layout.{write_width, write_count_place, writes_place, desk_width, desks_place, needed, allowed, occupied, write_bytes, desk_bytes, desks_bytes, write_from, taken_from, desks_from, occupied_in, count_in, desks_in, put_desks}
use Rattle.desk.specs.Shape.{RoomForWrite, RoomForWrites, WritesFit, RoomForDesk, RoomFor, Shaped}
use Rattle.desk.proofs.Laws.Bits.{occupied_low, occupied_high, occupied_lt}

pub needed_small : (n : ℕ) → 1 ≤ n → needed n ≤ allowed n
needed_small n e = omega arith

-- ---- writes

module _ (w : Write) (h : length w.key ≤ max_key) (s : Short w.payload) where
  pub length_write : length (write_bytes w) ≡ write_width
  unfolding write_bytes
  length_write = rw (length-append, length_key, length_payload)

  pub write_key : part (write_bytes w) 0 key_width ≡ key_bytes w.key
  unfolding write_bytes
  write_key = part_first _ _ _ (length_key _ h)

  pub write_payload : part (write_bytes w) key_width payload_width ≡ payload_bytes w.payload
  unfolding write_bytes
  write_payload = part_skip (key_bytes w.key) _ _ 0 _ (length_key _ h) ∙ part_all _ _ (length_payload _ s)

  pub write_get : write_from (write_bytes w) ≡ w
  unfolding write_from
  write_get = rw (write_key, write_payload, key_get, payload_get)

-- as rows of a table
write_size : (w : Write) → RoomForWrite w → length (write_bytes w) ≡ write_width
write_size w r = length_write w r.0 r.1

pub sized_writes : (ws : Writes) → RoomForWrites ws → Sized write_width (map write_bytes ws)
sized_writes = sized_table RoomForWrite _ write_bytes write_size

writes_get : (ws : Writes) → RoomForWrites ws → map write_from (map write_bytes ws) ≡ ws
writes_get = each_get RoomForWrite write_bytes write_from (λ w r. write_get w r.0 r.1)

pub length_writes : (ws : Writes) → RoomForWrites ws → length (joined (map write_bytes ws)) ≡ write_width * length ws
length_writes = length_table RoomForWrite _ write_bytes write_size

-- ---- a desk

-- before rows: a number, and how many rows
abbrev pub front : ℕ → ℕ → Bytes
front t n = bytes number_width t ++ (n ∷ [])

pub length_front : (t n : ℕ) → length (front t n) ≡ writes_place
length_front t n = rw (length-append, length_bytes)

pub front_parts : (t n : ℕ) (bs : Bytes) → bytes number_width t ++ (n ∷ bs) ≡ front t n ++ bs
front_parts t n bs = sym (append_assoc (bytes number_width t) _ bs)

pub front_count : (t n : ℕ) (bs : Bytes) → get_or (bytes number_width t ++ (n ∷ bs)) write_count_place 0 ≡ n
front_count t n bs = get_or_at (bytes number_width t) n bs 0 _ (length_bytes _ t)

module _ (x : Transaction) where
  pub desk_parts : desk_bytes (taken x) ≡ front x.start (length x.writes) ++ padded (write_width * max_writes) (joined (map write_bytes x.writes))
  unfolding desk_bytes
  desk_parts = front_parts _ _ _

  pub desk_start : part (desk_bytes (taken x)) 0 number_width ≡ bytes number_width x.start
  unfolding desk_bytes
  desk_start = part_first _ _ _ (length_bytes _ _)

  pub desk_count_lem : get_or (desk_bytes (taken x)) write_count_place 0 ≡ length x.writes
  unfolding desk_bytes
  desk_count_lem = front_count _ _ _

width_desk : (d : Desk) → WritesFit d → length (desk_bytes d) ≡ desk_width
unfolding desk_bytes
width_desk free r = length-replicate {A = ℕ} desk_width 0
width_desk (taken x) r =
    rw (
      length-append,
      length_bytes,
      length_region RoomForWrite write_width write_bytes write_size x.writes
          r.1 max_writes r.0,
    )

fits : (d : Desk) → RoomForDesk d → WritesFit d
fits free r = tt
fits (taken x) r = r.1

pub length_desk : (d : Desk) → RoomForDesk d → length (desk_bytes d) ≡ desk_width
length_desk d r = width_desk d (fits d r)

module _ (x : Transaction) (r : RoomForDesk (taken x)) where
  pub desk_rows : rows (desk_bytes (taken x)) writes_place write_width (length x.writes) ≡ map write_bytes x.writes
  desk_rows =
      let n : ℕ = length x.writes in
      rw (desk_parts x) (simp append-nil at (region_rows RoomForWrite _ write_bytes write_size x.writes r.1.1
      (front x.start n) [] _ max_writes (length_front x.start n)))

  pub desk_get : taken_from (desk_bytes (taken x)) ≡ taken x
  unfolding taken_from
  desk_get = rw (desk_start x, desk_count_lem x, num_bytes number_width x.start r.0, desk_rows, writes_get x.writes r.1.1)

-- ---- desks

pub sized_desks : (ds : List Desk) → Each WritesFit ds → Sized desk_width (map desk_bytes ds)
sized_desks = sized_table WritesFit _ desk_bytes width_desk

fits_each : (ds : List Desk) → Each RoomForDesk ds → Each WritesFit ds
fits_each [] r = tt
fits_each (d ∷ ds) r = (fits d r.0, fits_each ds r.1)

pub desks_sized : (ds : List Desk) → RoomFor ds → Sized desk_width (map desk_bytes ds)
desks_sized ds r = sized_desks ds (fits_each ds r.each)

desks_from_lem : (ds : List Desk) → Each RoomForDesk ds → desks_from (occupied ds) (map desk_bytes ds) ≡ ds
unfolding desks_from
desks_from_lem [] r = refl
desks_from_lem (free ∷ ds) r = rw (occupied_low free ds, occupied_high free ds, desks_from_lem ds r.1)
desks_from_lem (taken x ∷ ds) r = rw (occupied_low (taken x) ds, occupied_high (taken x) ds, desk_get x r.0, desks_from_lem ds r.1)

pub length_from : (o : ℕ) (bs : List Bytes) → length (desks_from o bs) ≡ length bs
unfolding desks_from
length_from o [] = refl
length_from o (b ∷ bs) = ap suc (length_from (o / 2) bs)

-- as many desks as memory says
pub length_in : (m : Bytes) → length (desks_in m) ≡ count_in m
unfolding desks_in
length_in m = length_from _ _ ∙ length_rows m _ _ _

module _ (m : Bytes) (ds : List Desk) where
  -- what comes before the desks, and after them
  abbrev pub head : Bytes
  head = front (occupied ds) (length ds)

  abbrev pub rest : Bytes
  rest = drop (needed (length ds)) m

  pub length_head : length head ≡ desks_place
  length_head = length_front _ _

  pub put_parts : put_desks m ds ≡ head ++ (joined (map desk_bytes ds) ++ rest)
  unfolding put_desks desks_bytes
  put_parts = ap (λ (b : Bytes). b ++ rest) (front_parts _ _ _) ∙ append_assoc head _ rest

  pub put_count : count_in (put_desks m ds) ≡ length ds
  unfolding put_desks desks_bytes
  put_count = rw append_assoc (front_count _ _ _)

  -- the rows of the desks, whatever their starts
  pub rows_put : Each WritesFit ds → rows (put_desks m ds) desks_place desk_width (length ds) ≡ map desk_bytes ds
  rows_put r =
      rw put_parts (rw (length-map ds desk_bytes) at (rows_mid desk_width (map desk_bytes ds) head rest desks_place length_head (sized_desks ds r)))

  module _ (r : RoomFor ds) where
    pub occupied_fits : occupied ds < 256 ^ number_width
    occupied_fits = occupied_lt ds _ r.count

    pub length_desks : length (desks_bytes ds) ≡ needed (length ds)
    unfolding desks_bytes
    length_desks =
        rw (length-append, length_bytes, length_joined desk_width (map desk_bytes ds) (desks_sized ds r), length-map)
        (omega arith)

    pub put_occupied : occupied_in (put_desks m ds) ≡ occupied ds
    unfolding put_desks desks_bytes
    put_occupied =
        rw (
          append_assoc,
          part_first (bytes number_width (occupied ds))
              (length ds ∷ (joined (map desk_bytes ds) ++ rest)) number_width (length_bytes number_width (occupied ds)),
        )
        (num_bytes _ _ occupied_fits)

    pub put_rows : rows (put_desks m ds) desks_place desk_width (count_in (put_desks m ds)) ≡ map desk_bytes ds
    put_rows = rw put_count (rows_put (fits_each ds r.each))

    pub desks_get : desks_in (put_desks m ds) ≡ ds
    unfolding desks_in
    desks_get = rw (put_occupied, put_rows) (desks_from_lem ds r.each)

    pub put_put : (es : List Desk) → length es ≡ length ds → put_desks (put_desks m ds) es ≡ put_desks m es
    unfolding put_desks
    put_put es e = rw e (ap (λ (z : Bytes). desks_bytes es ++ z) (drop_at (desks_bytes ds) rest _ length_desks))

    pub put_length : needed (length ds) ≤ length m → length (put_desks m ds) ≡ length m
    unfolding put_desks
    put_length h = rw (length-append, length_desks, length-drop) (omega arith)

    pub put_shaped : needed (length ds) ≤ length m → Shaped (put_desks m ds)
    put_shaped h = record { long = rw (put_length h, desks_get) h; room = rw desks_get r; same = rw (desks_get, put_put ds refl) }

    -- a put, then a put of as many desks that goes by what is then in memory
    pub put_then : (f : List Desk → List Desk) {m₁ m₂ : Bytes} → length (f ds) ≡ length ds → m₁ ≡ put_desks m ds → m₂ ≡ put_desks m₁ (f (desks_in m₁)) → m₂ ≡ put_desks m (f ds)
    put_then f l p q = q ∙ rw (p, desks_get, put_put (f ds) l)
