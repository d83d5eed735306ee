-- Lists whose every element keeps to a rule, and tables of such elements as bytes.
-- Assumes nothing.
use mathlib.Core.Path.{◌≡◌, refl, sym, ◌∙◌}
use mathlib.Core.List.{List, [], ◌∷◌, ◌++◌, map, append_assoc}
use Prim.Native.Nat.{ℕ, zero, suc, ◌+◌, ◌-◌, ◌*◌, ◌≤◌, ◌<◌}
use native.Mathlib.Nat.{not-suc-le-zero, le_of_suc-le-suc, mul-le-mul_left}
use native.Mathlib.Omega.{arith}
use lib.ListN.{length, take, drop, get_or, set, length-map, length-set}
use lib.Seq.{sets}
use Rattle.model.specs.Bytes.{Bytes}
use Rattle.memory.specs.Spans.{zeros, padded}
use Rattle.memory.specs.Rows.{rows, joined, Each, Sized, insert_at}
use Rattle.memory.proofs.Laws.Spans.{length_padded, store_padded}
use Rattle.memory.proofs.Laws.Rows.{length_joined, rows_mid, store_mid, map_set}

module _ {A : Type 0} (P : A → Type 0) where
  pub each_at : (xs : List A) (i : ℕ) (d : A) → Each P xs → i < length xs → P (get_or xs i d)
  each_at [] i d a h = absurd (not-suc-le-zero h)
  each_at (x ∷ xs) zero d a h = a.0
  each_at (x ∷ xs) (suc i) d a h = each_at xs i d a.1 (le_of_suc-le-suc h)

  pub each_set : (xs : List A) (i : ℕ) (x : A) → Each P xs → P x → Each P (set xs i x)
  each_set [] i x a p = a
  each_set (y ∷ ys) zero x a p = (p, a.1)
  each_set (y ∷ ys) (suc i) x a p = (a.0, each_set ys i x a.1 p)

  pub each_insert_at : (i : ℕ) (x : A) (xs : List A) → P x → Each P xs → Each P (insert_at i x xs)
  unfolding insert_at
  each_insert_at zero x xs p a = (p, a)
  each_insert_at (suc i) x [] p a = (p, a)
  each_insert_at (suc i) x (y ∷ ys) p a = (a.0, each_insert_at i x ys p a.1)

  pub each_append : (xs ys : List A) → Each P xs → Each P ys → Each P (xs ++ ys)
  each_append [] ys a b = b
  each_append (x ∷ xs) ys a b = (a.0, each_append xs ys a.1 b)

  pub each_take : (n : ℕ) (xs : List A) → Each P xs → Each P (take n xs)
  each_take zero xs a = tt
  each_take (suc n) [] a = a
  each_take (suc n) (x ∷ xs) a = (a.0, each_take n xs a.1)

  pub each_drop : (n : ℕ) (xs : List A) → Each P xs → Each P (drop n xs)
  each_drop zero xs a = a
  each_drop (suc n) [] a = a
  each_drop (suc n) (x ∷ xs) a = each_drop n xs a.1

-- what is read of what is written
pub each_get : {A B : Type 0} (P : A → Type 0) (code : A → B) (from : B → A) → ((x : A) → P x → from (code x) ≡ x)
    → (xs : List A) → Each P xs → map from (map code xs) ≡ xs
each_get P code from get [] a = refl
each_get P code from get (x ∷ xs) a = rw (get x a.0, each_get P code from get xs a.1)

-- ---- a table: each element has w bytes, and zeros stand after them up to n rows

module _ {A : Type 0} (P : A → Type 0) (w : ℕ) (code : A → Bytes) (size : (x : A) → P x → length (code x) ≡ w) where
  pub sized_table : (xs : List A) → Each P xs → Sized w (map code xs)
  unfolding Sized
  sized_table [] a = tt
  sized_table (x ∷ xs) a = (size x a.0, sized_table xs a.1)

  module _ (xs : List A) (a : Each P xs) where
    pub length_table : length (joined (map code xs)) ≡ w * length xs
    length_table = rw (length_joined w (map code xs) (sized_table xs a), length-map xs code)

    pub table_fits : (n : ℕ) → length xs ≤ n → length (joined (map code xs)) ≤ w * n
    table_fits n h = omega (arith, length_table, mul-le-mul_left w h)

    pub length_region : (n : ℕ) → length xs ≤ n → length (padded (w * n) (joined (map code xs))) ≡ w * n
    length_region n h = length_padded (w * n) (joined (map code xs)) (table_fits n h)

    -- stands between p and q
    module _ (p q : Bytes) (at n : ℕ) (e : length p ≡ at) where
      pub region_rows : rows (p ++ (padded (w * n) (joined (map code xs)) ++ q)) at w (length xs) ≡ map code xs
      unfolding padded
      region_rows =
          let z : Bytes = zeros (w * n - length (joined (map code xs))) in
          rw (append_assoc (joined (map code xs)) z q, ← length-map xs code) (rows_mid w (map code xs) p (z ++ q) at e (sized_table xs a))

      -- other rows stored over it, with k zeros after them
      pub region_store : (ys : List A) (k : ℕ) → Each P ys → w * length xs ≤ w * length ys + k → w * length ys + k ≤ w * n
          → sets (p ++ (padded (w * n) (joined (map code xs)) ++ q)) at (joined (map code ys) ++ zeros k) ≡ p ++ (padded (w * n) (joined (map code ys)) ++ q)
      region_store ys k b h l =
          let y : length (joined (map code ys)) ≡ w * length ys = rw (length_joined w (map code ys) (sized_table ys b), length-map ys code) in
          store_padded p (joined (map code xs)) q (joined (map code ys)) k (w * n) at e (omega (arith, length_table)) (omega arith)

      -- one row stored over
      pub region_set : (i : ℕ) (x : A) → P x → i < length xs
          → sets (p ++ (padded (w * n) (joined (map code xs)) ++ q)) (at + w * i) (code x) ≡ p ++ (padded (w * n) (joined (map code (set xs i x))) ++ q)
      unfolding padded
      region_set i x b h =
          let y : length (joined (map code (set xs i x))) ≡ length (joined (map code xs)) =
          length_joined w (map code (set xs i x)) (sized_table (set xs i x) (each_set P xs i x a b)) ∙ rw (length-map (set xs i x) code, length-set xs i x) (sym length_table) in
          let z : Bytes = zeros (w * n - length (joined (map code xs))) in
          let l : i < length (map code xs) = rw (length-map xs code) h in
          rw (y, append_assoc (joined (map code xs)) z q, append_assoc (joined (map code (set xs i x))) z q, map_set code xs i x)
          (store_mid w (map code xs) i (code x) p (z ++ q) at e (sized_table xs a) (size x b) l)
