-- Rows that begin with their keys, and where a key stands among them.
-- Assumes nothing.
use mathlib.Core.Path.{◌≡◌, refl, sym, ap, ◌∙◌}
use mathlib.Core.Bool.{true, ◌&&◌}
use mathlib.Core.List.{List, [], ◌∷◌, map}
use Prim.Native.Nat.{ℕ, suc, ◌+◌, ◌*◌, ◌≤◌, ◌<◌}
use native.Mathlib.Nat.{add-zero, mul-le-mul_left}
use native.Mathlib.Omega.{arith}
use native.Mathlib.Numerals.{add-one}
use lib.ListN.{length, get_or, drop, length-map, drop_of_length-le}
use lib.Seq.{drop-cons}
use Rattle.model.specs.Sizes.{max_key}
use Rattle.model.specs.Bytes.{Bytes, part, order}
use Rattle.model.proofs.Cases.{by_order}
use Rattle.memory.specs.Rows.{rows, Each}
use Rattle.std.specs.declared.cmp.Ordering.{Ordering}
use Rattle.std.specs.declared.cmp.Ordering.TheVariants.{Less, Equal, Greater}
use Rattle.memory.proofs.Laws.Parts.{part_part}
use Rattle.memory.proofs.Laws.Rows.{length_rows, row_at, get_d_map}
use Rattle.memory.proofs.Laws.Each.{each_at}
use Rattle.cells.specs.Cells.{key_width, key_bytes, key_from, is_key_cell}
use Rattle.cells.specs.Keys.{follows, all_follow}
use Rattle.cells.specs.Rows.{first_cell, keys_at, KeyRows, Seekable, place_of}
use Rattle.cells.specs.declared.rows.Place.{Place}
use Rattle.cells.specs.declared.rows.Place.TheVariants.{At, Before}
use Rattle.cells.proofs.Laws.Cells.{key_get, key_cell}
use Rattle.cells.proofs.Laws.Halving as halving
use Rattle.cells.proofs.Laws.Halving.{Between}

-- ---- a place

-- the same place, with one row more before it
abbrev pub next : Place → Place
next (At i) = At (suc i)
next (Before i) = Before (suc i)

-- a place among n rows
abbrev pub Within : Place → ℕ → Type 0
Within (At i) n = i < n
Within (Before i) n = i ≤ n

pub place_next : (k : Bytes) (i : ℕ) (xs : List Bytes) → place_of k (suc i) xs ≡ next (place_of k i xs)
unfolding place_of
place_next k i [] = refl
place_next k i (x ∷ xs) = by_order (order k x) (λ p. rw p) (λ p. rw p) (λ p. rw p (place_next k _ xs))

within_next : (p : Place) (n : ℕ) → Within p n → Within (next p) (suc n)
within_next (At i) n h = omega arith
within_next (Before i) n h = omega arith

pub place_in : {A : Type 0} (key : A → Bytes) (k : Bytes) (xs : List A) → Within (place_of k 0 (map key xs)) (length xs)
unfolding place_of
place_in key k [] = omega arith
place_in key k (x ∷ xs) =
    by_order (order k (key x))
    (λ p. rw p (omega arith))
    (λ p. rw p (omega arith))
    (λ p. rw (p, place_next k 0 (map key xs)) (within_next (place_of k 0 (map key xs)) _ (place_in key k xs)))

-- ---- rows of a memory that hold the elements of a list

module _ {A : Type 0} (code : A → Bytes) (m : Bytes) (at w : ℕ) (xs : List A) (e : rows m at w (length xs) ≡ map code xs) where
  module _ (i : ℕ) (d : A) (h : i < length xs) where
    pub row_coded : part m (at + w * i) w ≡ code (get_or xs i d)
    row_coded = sym (row_at m at w i (length xs) h) ∙ rw e (get_d_map code xs i d [] h)

    pub field_coded : (k n : ℕ) → k + n ≤ w → part m (at + w * i + k) n ≡ part (code (get_or xs i d)) k n
    field_coded k n l = sym (part_part m _ w k n l) ∙ ap (λ (r : Bytes). part r k n) row_coded

  -- each of which has a key
  module _ (P : A → Type 0) (key : A → Bytes) (short : (x : A) → P x → length (key x) ≤ max_key) (cell : (x : A) → P x → first_cell (code x) ≡ key_bytes (key x)) (a : Each P xs) where
    keyed_rows : (ys : List A) → Each P ys → Each (λ (r : Bytes). is_key_cell (first_cell r) ≡ true) (map code ys)
    keyed_rows [] b = tt
    keyed_rows (y ∷ ys) b = (rw (cell y b.0) (key_cell _ (short y b.0)), keyed_rows ys b.1)

    keys_of : (ys : List A) → Each P ys → map (λ (r : Bytes). key_from (first_cell r)) (map code ys) ≡ map key ys
    keys_of [] b = refl
    keys_of (y ∷ ys) b = rw (cell y b.0, key_get (key y) (short y b.0), keys_of ys b.1)

    pub keys_are : keys_at m at w (length xs) ≡ map key xs
    unfolding keys_at
    keys_are = rw e (keys_of xs a)

    pub key_rows_lem : key_width ≤ w → at + w * length xs ≤ length m → KeyRows m at w (length xs)
    key_rows_lem h l = record { wide = h; fits = l; keyed = rw e (keyed_rows xs a) }

-- ---- the keys of rows

module _ (m : Bytes) (at w n : ℕ) where
  abbrev ks : List Bytes
  ks = keys_at m at w n

  counted : length (keys_at m at w n) ≡ n
  unfolding keys_at
  counted = rw (length-map, length_rows)

  pub all_left : (k : Bytes) → Between k (keys_at m at w n) 0 n
  all_left k = rw counted at (halving.all_left k ks)

  pub none_left : (k : Bytes) {lo hi : ℕ} → lo ≤ hi → hi ≤ n → hi ≤ lo → Between k (keys_at m at w n) lo hi
      → place_of k 0 (keys_at m at w n) ≡ Before lo
  none_left k {lo} {hi} h u l b =
      let e : hi ≡ lo = omega arith in
      halving.none_left k ks lo (omega (arith, counted)) (rw e at b)

  pub none_after : (last : Bytes) {i : ℕ} → n ≤ i → all_follow last (drop i (keys_at m at w n)) ≡ true
  unfolding all_follow
  none_after last {i} h = let l : length ks ≤ i = rw counted h in rw drop_of_length-le

  module _ (r : KeyRows m at w n) (i : ℕ) (h : i < n) where
    pub row_within : at + w * i + w ≤ length m
    row_within = omega (arith, r.fits, mul-le-mul_left w h)

    -- the cell that row i begins with
    cell_at : first_cell (get_or (rows m at w n) i []) ≡ part m (at + w * i) key_width
    cell_at = rw (row_at m at w i n h, part_part m (at + w * i) w 0 key_width r.wide, add-zero)

    long : i < length (rows m at w n)
    long = rw length_rows h

    pub key_ready : (at + w * i + key_width ≤ length m) × (is_key_cell (part m (at + w * i) key_width) ≡ true)
    key_ready = (omega (arith, row_within, r.wide), rw cell_at at (each_at (λ (x : Bytes). is_key_cell (first_cell x) ≡ true) (rows m at w n) i [] r.keyed long))

    key_at : get_or (keys_at m at w n) i [] ≡ key_from (part m (at + w * i) key_width)
    unfolding keys_at
    key_at = get_d_map (λ (x : Bytes). key_from (first_cell x)) (rows m at w n) i [] [] long ∙ ap key_from cell_at

    among : i < length (keys_at m at w n)
    among = rw counted h

    pub follow_next : (last : Bytes) {x : Bytes} → x ≡ key_from (part m (at + w * i) key_width)
        → all_follow last (drop i (keys_at m at w n)) ≡ (follows last x && all_follow x (drop (i + 1) (keys_at m at w n)))
    unfolding all_follow
    follow_next last e = rw (e, ← key_at, add-one i, drop-cons ks i [] among)

-- ---- a key sought among rows

module _ (m : Bytes) (at w n : ℕ) (s : Seekable m at w n) (i : ℕ) (h : i < n) where
  -- row i compared
  module _ (k : Bytes) {x : Bytes} {o : Ordering} (e : x ≡ key_from (part m (at + w * i) key_width)) (q : o ≡ order k x) where
    told : {p : Ordering} → o ≡ p → order k (get_or (keys_at m at w n) i []) ≡ p
    told t = rw (key_at m at w n s.rows i h, ← e) (sym q ∙ t)

    pub found : o ≡ Equal → place_of k 0 (keys_at m at w n) ≡ At i
    found t = halving.found k (ks m at w n) i s.ascend (among m at w n s.rows i h) (told t)

    module _ {lo hi : ℕ} (b : Between k (keys_at m at w n) lo hi) where
      pub left_half : o ≡ Less → Between k (keys_at m at w n) lo i
      left_half t = record { below = b.below; above = λ _. told t }

      pub right_half : o ≡ Greater → Between k (keys_at m at w n) (i + 1) hi
      right_half t = record { below = halving.more_below k (ks m at w n) i s.ascend (among m at w n s.rows i h) (told t); above = b.above }
