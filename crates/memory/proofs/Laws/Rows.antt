-- Tables in a memory: rows read, stored, put in and taken out, for any width.
-- Assumes nothing.
use mathlib.Core.Path.{◌≡◌, refl, sym, ap, ap₂, ◌∙◌}
use mathlib.Core.List.{List, [], ◌∷◌, ◌++◌, map, append_assoc}
use Prim.Native.Nat.{ℕ, zero, suc, ◌+◌, ◌-◌, ◌*◌, ◌≤◌, ◌<◌}
use native.Mathlib.Nat.{zero-add, suc-add, mul-add, not-suc-le-zero, le_of_suc-le-suc}
use native.Mathlib.Omega.{arith}
use lib.ListN.{length, take, get_or, set, length-append}
use lib.Seq.{sets, get_or_at}
use Rattle.model.specs.Bytes.{Bytes, part}
use Rattle.memory.specs.Rows.{rows, joined, Sized, insert_at}
use Rattle.memory.proofs.Laws.Parts.{sets_append, sets_front, sets_mid, sets_self, part_none, part_add, length_part, part_mid}

-- ---- places

pub mul_cut : (w i n : ℕ) → i ≤ n → w * n ≡ w * i + w * (n - i)
mul_cut w i n h =
    let e : n ≡ i + (n - i) = omega arith in
    ap (λ (k : ℕ). w * k) e ∙ mul-add w i (n - i)

-- ---- what is put into a list, and taken out

module _ {ℓ} {A : Type ℓ} where
  pub length_insert_at : (i : ℕ) (x : A) (xs : List A) → length (insert_at i x xs) ≡ suc (length xs)
  unfolding insert_at
  length_insert_at zero x xs = refl
  length_insert_at (suc i) x [] = refl
  length_insert_at (suc i) x (y ∷ ys) = ap suc (length_insert_at i x ys)

  pub insert_at_seam : (xs ys : List A) (x : A) → insert_at (length xs) x (xs ++ ys) ≡ xs ++ (x ∷ ys)
  unfolding insert_at
  insert_at_seam [] ys x = refl
  insert_at_seam (z ∷ xs) ys x = rw (insert_at_seam xs ys x)

module _ {ℓ κ} {A : Type ℓ} {B : Type κ} (f : A → B) where
  pub map_take : (n : ℕ) (xs : List A) → take n (map f xs) ≡ map f (take n xs)
  map_take zero xs = refl
  map_take (suc n) [] = refl
  map_take (suc n) (x ∷ xs) = rw (map_take n xs)

  pub map_set : (xs : List A) (i : ℕ) (x : A) → map f (set xs i x) ≡ set (map f xs) i (f x)
  map_set [] i x = refl
  map_set (y ∷ ys) zero x = refl
  map_set (y ∷ ys) (suc i) x = rw (map_set ys i x)

  -- within the list, whatever stands past its end
  pub get_d_map : (xs : List A) (i : ℕ) (d : A) (e : B) → i < length xs → get_or (map f xs) i e ≡ f (get_or xs i d)
  get_d_map [] i d e h = absurd (not-suc-le-zero h)
  get_d_map (x ∷ xs) zero d e h = refl
  get_d_map (x ∷ xs) (suc i) d e h = get_d_map xs i d e (le_of_suc-le-suc h)

  pub map_insert_at : (i : ℕ) (x : A) (xs : List A) → map f (insert_at i x xs) ≡ insert_at i (f x) (map f xs)
  unfolding insert_at
  map_insert_at zero x xs = refl
  map_insert_at (suc i) x [] = refl
  map_insert_at (suc i) x (y ∷ ys) = rw (map_insert_at i x ys)

-- ---- the bytes of rows

pub joined_append : (xs ys : List Bytes) → joined (xs ++ ys) ≡ joined xs ++ joined ys
unfolding joined
joined_append [] ys = refl
joined_append (x ∷ xs) ys = rw (joined_append xs ys, append_assoc)

pub length_joined : (w : ℕ) (rs : List Bytes) → Sized w rs → length (joined rs) ≡ w * length rs
unfolding joined Sized
length_joined w [] s = omega arith
length_joined w (r ∷ rs) s = rw (length-append, length_joined w rs s.1) (omega arith)

-- ---- rows of a memory

pub length_rows : (m : Bytes) (at w n : ℕ) → length (rows m at w n) ≡ n
unfolding rows
length_rows m at w zero = refl
length_rows m at w (suc n) = ap suc (length_rows m (at + w) w n)

pub sized_rows : (m : Bytes) (at w n : ℕ) → at + w * n ≤ length m → Sized w (rows m at w n)
unfolding rows Sized
sized_rows m at w zero h = tt
sized_rows m at w (suc n) h = (length_part m at w (omega arith), sized_rows m (at + w) w n (omega arith))

pub joined_rows : (m : Bytes) (at w n : ℕ) → joined (rows m at w n) ≡ part m at (w * n)
unfolding rows joined
joined_rows m at w zero = sym (part_none m at (w * 0) (omega arith))
joined_rows m at w (suc n) =
    let e : w * suc n ≡ w + w * n = omega arith in
    rw (e, part_add, joined_rows m (at + w) w n)

pub rows_add : (m : Bytes) (at w a b : ℕ) → rows m at w (a + b) ≡ rows m at w a ++ rows m (at + w * a) w b
unfolding rows
rows_add m at w zero b =
    let e : at + w * 0 ≡ at = omega arith in
    rw (zero-add, e)
rows_add m at w (suc a) b =
    let e : at + w * suc a ≡ at + w + w * a = omega arith in
    rw (suc-add, e, rows_add m (at + w) w a b)

module _ (m : Bytes) (at w i n : ℕ) where
  pub rows_cut : i ≤ n → rows m at w n ≡ rows m at w i ++ rows m (at + w * i) w (n - i)
  rows_cut h =
      let e : n ≡ i + (n - i) = omega arith in
      ap (rows m at w) e ∙ rows_add m at w i (n - i)

  -- the rows before row i, itself, the rows after it
  pub rows_around : i < n → rows m at w n ≡ rows m at w i ++ (part m (at + w * i) w ∷ rows m (at + w * i + w) w (n - suc i))
  unfolding rows
  rows_around h =
      let e : n - i ≡ suc (n - suc i) = omega arith in
      rows_cut (omega arith) ∙ rw e

  pub row_at : i < n → get_or (rows m at w n) i [] ≡ part m (at + w * i) w
  row_at h = rw (rows_around h) (get_or_at (rows m at w i) (part m (at + w * i) w) (rows m (at + w * i + w) w (n - suc i)) [] i (length_rows m at w i))

-- ---- rows after a store

pub rows_mid : (w : ℕ) (rs : List Bytes) (a c : Bytes) (at : ℕ) → length a ≡ at → Sized w rs → rows (a ++ (joined rs ++ c)) at w (length rs) ≡ rs
unfolding rows joined Sized
rows_mid w [] a c at e s = refl
rows_mid w (r ∷ rs) a c at e s =
    let p : a ++ (joined (r ∷ rs) ++ c) ≡ a ++ (r ++ (joined rs ++ c)) = ap (λ x. a ++ x) (append_assoc r (joined rs) c) in
    let q : a ++ (joined (r ∷ rs) ++ c) ≡ (a ++ r) ++ (joined rs ++ c) = p ∙ sym (append_assoc a r (joined rs ++ c)) in
    let f : length (a ++ r) ≡ at + w = rw length-append (omega arith) in
    ap₂ (λ x xs. x ∷ xs) (rw p (part_mid a r (joined rs ++ c) at w e s.0))
    (ap (λ x. rows x (at + w) w (length rs)) q ∙ rows_mid w rs (a ++ r) c (at + w) f s.1)

-- one row of a table stored over
pub store_mid : (w : ℕ) (rs : List Bytes) (i : ℕ) (row a c : Bytes) (at : ℕ) → length a ≡ at → Sized w rs → length row ≡ w → i < length rs
    → sets (a ++ (joined rs ++ c)) (at + w * i) row ≡ a ++ (joined (set rs i row) ++ c)
unfolding joined Sized
store_mid w [] i row a c at e s f h = absurd (not-suc-le-zero h)
store_mid w (r ∷ rs) zero row a c at e s f h =
    let n : at + w * 0 ≡ at = omega arith in
    rw n (simp append_assoc (sets_mid a r (joined rs ++ c) row at e (s.0 ∙ sym f)))
store_mid w (r ∷ rs) (suc i) row a c at e s f h =
    let q : length (a ++ r) ≡ at + w = rw length-append (omega arith) in
    let n : at + w * suc i ≡ at + w + w * i = omega arith in
    rw n (simp append_assoc (simp append_assoc at (store_mid w rs i row (a ++ r) c (at + w) q s.1 f (le_of_suc-le-suc h))))

-- a store that begins with the rows that are there
sets_rows : (m : Bytes) (at w i : ℕ) (bs : Bytes) → at + w * i ≤ length m → sets m at (joined (rows m at w i) ++ bs) ≡ sets m (at + w * i) bs
sets_rows m at w i bs h = rw (joined_rows, sets_append m at (part m at (w * i)) bs, length_part m at (w * i) h, sets_self m at (w * i) h)

-- ---- one row stored, put in, taken out

-- a gap that was opened for a row, and the row copied in
pub insert_row : (m : Bytes) (at w n i : ℕ) → at + w * n ≤ length m → (row : Bytes) {m₁ m₂ : Bytes} → length row ≡ w → i ≤ n
    → m₁ ≡ sets m (at + w * i + w) (part m (at + w * i) (at + w * n - (at + w * i)))
    → m₂ ≡ sets m₁ (at + w * i) row
    → m₂ ≡ sets m at (joined (insert_at i row (rows m at w n)))
unfolding joined
insert_row m at w n i fits row e h p q =
    let k = mul_cut w i n h in
    let g : at + w * n - (at + w * i) ≡ w * (n - i) = omega arith in
    let before : List Bytes = rows m at w i in
    let after : List Bytes = rows m (at + w * i) w (n - i) in
    let f : insert_at i row (rows m at w n) ≡ before ++ (row ∷ after) =
    ap (λ (j : ℕ). insert_at j row (rows m at w n)) (sym (length_rows m at w i)) ∙ ap (insert_at (length before) row) (rows_cut m at w i n h) ∙ insert_at_seam before after row in
    q ∙ rw (p, g, f, joined_append, sets_rows m at w i (row ++ joined after) (omega arith), joined_rows, ← e) (sets_front m (at + length row * i) row _)
