-- Parts of a memory, stores into it, and numbers that stand in it.
-- Assumes nothing.
use mathlib.Core.Path.{◌≡◌, refl, sym, ap, ◌∙◌}
use mathlib.Core.Bool.{true}
use mathlib.Core.List.{List, [], ◌∷◌, ◌++◌, append_assoc}
use Prim.Native.Nat.{ℕ, zero, suc, ◌+◌, ◌*◌, ◌-◌, ◌/◌, ◌^◌, ◌≤◌, ◌<◌}
use native.Mathlib.Nat.{add-zero, add-suc, suc-add, zero-add}
use native.Mathlib.Numerals.{add-one}
use native.Mathlib.Omega.{arith}
use lib.ListN.{length, take, drop, get_or, set, length-append, length-take, length-drop}
use lib.Seq.{sets, sets-eq, drop-cons, drop-drop, take-nil, take-add, take-take, take-length, take_at, drop_at, drop-append-add, take-set-le, drop-set-lt, get_or-take, get_or-drop, get_or-set_other, set_comm, set-get_or}
use Rattle.model.specs.Bytes.{Bytes, are_bytes, part, num, bytes}
use Rattle.memory.proofs.Laws.Numbers.{num_append, length_bytes, bytes_add, bytes_num, num_bound, are_bytes_part}

-- ---- runs of stores

module _ {ℓ} {A : Type ℓ} where
  pub sets_append : (l : List A) (i : ℕ) (xs ys : List A) → sets l i (xs ++ ys) ≡ sets (sets l i xs) (i + length xs) ys
  sets_append l i [] ys = rw add-zero
  sets_append l i (x ∷ xs) ys = sets_append (set l i x) (suc i) xs ys ∙ rw (suc-add, add-suc)

  pub take_sets : (l : List A) (i : ℕ) (xs : List A) (n : ℕ) → n ≤ i → take n (sets l i xs) ≡ take n l
  take_sets l i [] n h = refl
  take_sets l i (x ∷ xs) n h = take_sets (set l i x) (suc i) xs n (omega arith) ∙ take-set-le n l i x h

  pub drop_sets : (l : List A) (i : ℕ) (xs : List A) (n : ℕ) → i + length xs ≤ n → drop n (sets l i xs) ≡ drop n l
  drop_sets l i [] n h = refl
  drop_sets l i (x ∷ xs) n h = drop_sets (set l i x) (suc i) xs n (omega arith) ∙ drop-set-lt n l i x (omega arith)

  pub get_or_sets_below : (l : List A) (i : ℕ) (xs : List A) (k : ℕ) (d : A) → k < i → get_or (sets l i xs) k d ≡ get_or l k d
  get_or_sets_below l i [] k d h = refl
  get_or_sets_below l i (x ∷ xs) k d h = get_or_sets_below (set l i x) (suc i) xs k d (omega arith) ∙ get_or-set_other l i k x d (omega arith)

  pub get_or_sets_above : (l : List A) (i : ℕ) (xs : List A) (k : ℕ) (d : A) → i + length xs ≤ k → get_or (sets l i xs) k d ≡ get_or l k d
  get_or_sets_above l i [] k d h = refl
  get_or_sets_above l i (x ∷ xs) k d h = get_or_sets_above (set l i x) (suc i) xs k d (omega arith) ∙ get_or-set_other l i k x d (omega arith)

  -- a store below a run goes before it
  pub set_sets_below : (l : List A) (i : ℕ) (xs : List A) (k : ℕ) (a : A) → k < i → set (sets l i xs) k a ≡ sets (set l k a) i xs
  set_sets_below l i [] k a h = refl
  set_sets_below l i (x ∷ xs) k a h = set_sets_below (set l i x) (suc i) xs k a (omega arith) ∙ rw (set_comm l i k x a (omega arith))

  pub sets_swap : (l : List A) (p : ℕ) (xs : List A) (q : ℕ) (ys : List A) → p + length xs ≤ q → sets (sets l q ys) p xs ≡ sets (sets l p xs) q ys
  sets_swap l p [] q ys h = refl
  sets_swap l p (x ∷ xs) q ys h = rw (set_sets_below l q ys p x (omega arith)) (sets_swap (set l p x) (suc p) xs q ys (omega arith))

  -- what comes before a run is stored after it
  pub sets_front : (l : List A) (p : ℕ) (xs ys : List A) → sets (sets l (p + length xs) ys) p xs ≡ sets l p (xs ++ ys)
  sets_front l p xs ys = sets_swap l p xs (p + length xs) ys (omega arith) ∙ sym (sets_append l p xs ys)

  -- a middle that is stored over
  pub sets_mid : (a b c x : List A) (at : ℕ) → length a ≡ at → length b ≡ length x → sets (a ++ (b ++ c)) at x ≡ a ++ (x ++ c)
  sets_mid a b c x at e f =
      let g : length (a ++ (b ++ c)) ≡ length a + (length b + length c) = simp length-append in
      let n : length (a ++ b) ≡ at + length x = simp length-append (omega arith) in
      let d : drop (at + length x) (a ++ (b ++ c)) ≡ c = rw (← append_assoc a b c) (drop_at (a ++ b) c (at + length x) n) in
      rw (sets-eq x (a ++ (b ++ c)) at (omega arith), take_at a (b ++ c) at e, d, append_assoc)

  pub drop_take : (k n : ℕ) (l : List A) → drop k (take (k + n) l) ≡ take n (drop k l)
  drop_take zero n l = rw zero-add
  drop_take (suc k) n [] = rw suc-add (sym (take-nil n))
  drop_take (suc k) n (x ∷ l) = rw suc-add (drop_take k n l)

-- ---- parts

pub part_none : (m : Bytes) (at n : ℕ) → n ≡ 0 → part m at n ≡ []
unfolding part
part_none m at n e = rw e

pub part_all : (m : Bytes) (n : ℕ) → length m ≡ n → part m 0 n ≡ m
unfolding part
part_all m n e = rw (← e, take-length m)

pub part_cons : (m : Bytes) (at n : ℕ) → at < length m → part m at (suc n) ≡ get_or m at 0 ∷ part m (suc at) n
unfolding part
part_cons m at n h = rw (drop-cons m at 0)

pub part_add : (m : Bytes) (at a b : ℕ) → part m at (a + b) ≡ part m at a ++ part m (at + a) b
unfolding part
part_add m at a b = rw (take-add, drop-drop)

pub length_part : (m : Bytes) (at n : ℕ) → at + n ≤ length m → length (part m at n) ≡ n
unfolding part
length_part m at n h = simp (length-take, length-drop) (omega arith)

-- the number in a part is one of its width
pub num_low : (m : Bytes) (at n : ℕ) → are_bytes m ≡ true → at + n ≤ length m → num (part m at n) < 256 ^ n
num_low m at n a h = rw (length_part m at n h) at (num_bound (part m at n) (are_bytes_part m at n a))

pub get_d_part : (m : Bytes) (at n i : ℕ) → i < n → get_or (part m at n) i 0 ≡ get_or m (at + i) 0
unfolding part
get_d_part m at n i h = rw (get_or-take, get_or-drop)

pub part_part : (m : Bytes) (at n k j : ℕ) → k + j ≤ n → part (part m at n) k j ≡ part m (at + k) j
unfolding part
part_part m at n k j h =
    let e : n ≡ k + (n - k) = omega arith in
    let g : j ≤ n - k = omega arith in
    rw (e, drop_take k (n - k) (drop at m), take-take j (n - k) (drop k (drop at m)) g, drop-drop)

-- ---- parts of two lists, one after the other

pub part_skip : (a b : Bytes) (n at j : ℕ) → length a ≡ n → part (a ++ b) (n + at) j ≡ part b at j
unfolding part
part_skip a b n at j e = rw (← e, drop-append-add a b at)

pub part_first : (a b : Bytes) (n : ℕ) → length a ≡ n → part (a ++ b) 0 n ≡ a
unfolding part
part_first a b n e = take_at a b n e

pub part_mid : (a b c : Bytes) (at n : ℕ) → length a ≡ at → length b ≡ n → part (a ++ (b ++ c)) at n ≡ b
unfolding part
part_mid a b c at n e f = rw (drop_at a (b ++ c) at e, take_at b c n f)

-- ---- parts after a store

pub part_sets_above : (m : Bytes) (q : ℕ) (bs : Bytes) (at n : ℕ) → q + length bs ≤ at → part (sets m q bs) at n ≡ part m at n
unfolding part
part_sets_above m q bs at n h = rw (drop_sets m q bs at h)

pub part_sets_below : (m : Bytes) (q : ℕ) (bs : Bytes) (at n : ℕ) → at + n ≤ q → part (sets m q bs) at n ≡ part m at n
unfolding part
part_sets_below m q bs at n h =
    sym (drop_take at n (sets m q bs)) ∙ ap (drop at) (take_sets m q bs (at + n) h) ∙ drop_take at n m

-- what was stored is there
pub part_sets : (m : Bytes) (at : ℕ) (bs : Bytes) → at + length bs ≤ length m → part (sets m at bs) at (length bs) ≡ bs
part_sets m at bs h =
    let e : length (take at m) ≡ at = simp length-take (omega arith) in
    rw (sets-eq bs m at h, append_assoc) (part_mid (take at m) bs (drop (at + length bs) m) at (length bs) e refl)

-- a store of what is there
pub sets_self : (m : Bytes) (at n : ℕ) → at + n ≤ length m → sets m at (part m at n) ≡ m
sets_self m at zero h = rw (part_none m at 0 refl)
sets_self m at (suc n) h =
    let k : at < length m = omega arith in
    rw (part_cons m at n k) (ap (λ (d : Bytes). sets d (suc at) (part m (suc at) n)) (set-get_or m at 0) ∙ sets_self m (suc at) n (omega arith))

-- ---- numbers in a memory

-- the number in a memory, written anew, is the part that said it
pub bytes_part : (m : Bytes) (at n : ℕ) → are_bytes m ≡ true → at + n ≤ length m → bytes n (num (part m at n)) ≡ part m at n
bytes_part m at n a h = rw (length_part m at n h) at (bytes_num (part m at n) (are_bytes_part m at n a))

-- two bytes that were read
pub num_two : (m : Bytes) (at : ℕ) → at + 2 ≤ length m → get_or m at 0 + get_or m (at + 1) 0 * 256 ≡ num (part m at 2)
unfolding num part
num_two m at h =
    let h₁ : at < length m = omega arith in
    let h₂ : suc at < length m = omega arith in
    rw (part_cons m at 1 h₁, part_cons m (suc at) 0 h₂, add-one) (omega arith)

-- two numbers that were read, one after the other
pub num_join : (m : Bytes) (at a b : ℕ) {x y : ℕ} → at + a ≤ length m → x ≡ num (part m at a) → y ≡ num (part m (at + a) b)
    → x + y * 256 ^ a ≡ num (part m at (a + b))
num_join m at a b h p q = rw (part_add, num_append, length_part m at a h, p, q) (omega arith)

-- two numbers that were written, one after the other
pub bytes_join : (m : Bytes) (at a b v : ℕ) {m₁ m₂ : Bytes} → m₁ ≡ sets m at (bytes a v) → m₂ ≡ sets m₁ (at + a) (bytes b (v / 256 ^ a))
    → m₂ ≡ sets m at (bytes (a + b) v)
bytes_join m at a b v p q = q ∙ rw (p, bytes_add, sets_append, length_bytes)
