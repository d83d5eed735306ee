-- A store into one row of a table, and the rows of a part.
-- Assumes nothing.
use mathlib.Core.Path.{◌≡◌, refl, sym, ap, ◌∙◌}
use mathlib.Core.List.{List, [], ◌++◌, append-nil}
use Prim.Native.Nat.{ℕ, zero, suc, ◌+◌, ◌-◌, ◌*◌, ◌≤◌, ◌<◌}
use native.Mathlib.Omega.{arith}
use native.Mathlib.Nat.{mul-le-mul_left}
use lib.ListN.{length, get_or, set, length-append}
use lib.Seq.{sets, length-sets}
use Rattle.model.specs.Bytes.{Bytes, part}
use Rattle.memory.specs.Rows.{rows, joined, Sized}
use Rattle.memory.proofs.Laws.Parts.{part_add, part_part, length_part, part_sets_above, sets_append, sets_mid, sets_self}
use Rattle.memory.proofs.Laws.Rows.{length_joined, rows_mid, row_at, store_mid}

-- a store within a part is a store of the part
pub sets_within : (m : Bytes) (p w k : ℕ) (bs : Bytes) → k + length bs ≤ w → p + w ≤ length m → sets m (p + k) bs ≡ sets m p (sets (part m p w) k bs)
sets_within m p w k bs h l =
    let n : ℕ = length bs in
    let j : ℕ = w - (k + n) in
    let x : Bytes = part m p k in
    let z : Bytes = part m (p + k + n) j in
    let e : w ≡ k + (n + j) = omega arith in
    let q : part m p w ≡ x ++ (part m (p + k) n ++ z) = ap (λ (i : ℕ). part m p i) e ∙ rw (part_add, part_add) in
    let lx : length x ≡ k = length_part m p k (omega arith) in
    let r : sets (part m p w) k bs ≡ x ++ (bs ++ z) =
    rw q (sets_mid x (part m (p + k) n) z bs k lx (length_part m _ n (omega arith))) in
    let b : z ≡ part (sets m (p + k) bs) (p + k + n) j = sym (part_sets_above m _ bs _ j (omega arith)) in
    let s : sets (sets m (p + k) bs) (p + k + n) z ≡ sets m (p + k) bs =
    rw b (sets_self _ _ j (rw length-sets (omega arith))) in
    sym (rw (r, sets_append, lx, sets_self m p k (omega arith), sets_append m (p + k) bs z) s)

-- what comes after the front of a list stored over
pub sets_back : (a b x : Bytes) (n : ℕ) → length a ≡ n → length b ≡ length x → sets (a ++ b) n x ≡ a ++ x
sets_back a b x n e f = simp append-nil at (sets_mid a b [] x n e f)

-- row i of a table, and a store within it
module _ (w : ℕ) (rs : List Bytes) (i : ℕ) (a z : Bytes) (at : ℕ) (e : length a ≡ at) (s : Sized w rs) (h : i < length rs) where
  abbrev memory : Bytes
  memory = a ++ (joined rs ++ z)

  pub row_of : part memory (at + w * i) w ≡ get_or rs i []
  row_of = sym (row_at _ at w i (length rs) h) ∙ rw (rows_mid w rs a z at e s)

  pub store_within : (k : ℕ) (bs r : Bytes) → k + length bs ≤ w → length r ≡ w → sets (get_or rs i []) k bs ≡ r
      → sets memory (at + w * i + k) bs ≡ a ++ (joined (set rs i r) ++ z)
  store_within k bs r l f g =
      let n : length memory ≡ at + (w * length rs + length z) = rw (length-append, length-append, e, length_joined w rs s) in
      rw (sets_within memory (at + w * i) w k bs l (omega (arith, mul-le-mul_left w h)), row_of, g) (store_mid w rs i r a z at e s f h)

-- rows of a part of a memory
pub rows_part : (m : Bytes) (p n at w k : ℕ) → at + w * k ≤ n → rows (part m p n) at w k ≡ rows m (p + at) w k
unfolding rows
rows_part m p n at w zero h = refl
rows_part m p n at w (suc k) h =
    let e : p + (at + w) ≡ p + at + w = omega arith in
    rw (part_part m p n at w (omega arith), rows_part m p n (at + w) w k (omega arith), e)
