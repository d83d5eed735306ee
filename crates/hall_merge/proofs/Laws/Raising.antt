-- Ends raised from the last write to the first, and lists whose second part changes.
-- Assumes nothing.
use mathlib.Core.Path.{◌≡◌, refl, sym, ap, ◌∙◌}
use mathlib.Core.List.{List, [], ◌∷◌, ◌++◌, map, append_assoc, append-nil}
use Prim.Native.Nat.{ℕ, zero, suc, ◌+◌, ◌-◌, ◌≤◌, ◌<◌}
use native.Mathlib.Nat.{not-suc-le-zero, le_of_suc-le-suc, suc-add, zero-add, add-suc}
use native.Mathlib.Omega.{arith}
use lib.ListN.{length, get_or, take, drop, set, length-map, length-drop, length-append, take-append-drop, get_or-append}
use lib.Seq.{sets, length-take-le, take_at, take-add, take-length, drop_at, drop-length, drop-drop, drop-append-add}
use lib.Seq.{drop-cons, get_or-take}
use Rattle.memory.proofs.Laws.Parts.{sets_mid}
use Rattle.hall.specs.Layout.{Row}
use Rattle.hall.specs.Tables.{no_row, row_at, bump, Ends}
use Rattle.hall.proofs.Laws.Chains.{ends_at}
use Rattle.hall_rows.specs.Runs.{shifted, raise, raised}
use Rattle.hall_rows.proofs.Laws.Runs.{map_append}

-- ---- ends

pub ends_rise : (b n : ℕ) (rs : List Row) (i p : ℕ) → Ends b n rs → i ≤ p → p < length rs → (row_at i rs).end ≤ (row_at p rs).end
ends_rise b n [] i p a h l = absurd (not-suc-le-zero l)
ends_rise b n (r ∷ rs) zero zero a h l = omega arith
ends_rise b n (r ∷ rs) zero (suc p) a h l = let q = ends_at r.end n p rs a.1 (le_of_suc-le-suc l) in omega arith
ends_rise b n (r ∷ rs) (suc i) zero a h l = absurd (not-suc-le-zero h)
ends_rise b n (r ∷ rs) (suc i) (suc p) a h l = ends_rise r.end n rs i p a.1 (le_of_suc-le-suc h) (le_of_suc-le-suc l)

take_bump : (p : ℕ) (rs : List Row) → take p (bump p rs) ≡ take p rs
unfolding bump
take_bump zero rs = refl
take_bump (suc p) [] = refl
take_bump (suc p) (r ∷ rs) = ap (λ (l : List Row). r ∷ l) (take_bump p rs)

pub bump_below : (i p : ℕ) (rs : List Row) → i < p → row_at i (bump p rs) ≡ row_at i rs
bump_below i p rs h = sym (get_or-take p (bump p rs) i no_row h) ∙ rw (take_bump p rs) (get_or-take p rs i no_row h)

drop_bump : (p : ℕ) (rs : List Row) → drop p (bump p rs) ≡ bump 0 (drop p rs)
unfolding bump
drop_bump zero rs = refl
drop_bump (suc p) [] = refl
drop_bump (suc p) (r ∷ rs) = drop_bump p rs

raise_bump : (k : ℕ) (rs : List Row) → 1 ≤ k → map (raise (k - 1)) (bump 0 rs) ≡ map (raise k) rs
unfolding bump
raise_bump k [] h = refl
raise_bump k (r ∷ rs) h =
    let e : suc r.end + (k - 1) ≡ r.end + k = omega arith in
    rw (e, raise_bump k rs h)

raise_none : (rs : List Row) → map (raise 0) rs ≡ rs
raise_none [] = refl
raise_none (r ∷ rs) =
    let e : r.end + 0 ≡ r.end = omega arith in
    rw (raise_none rs) (ap (λ (n : ℕ). record { key = r.key; end = n } ∷ rs) e)

-- the rows from `row` on are raised by k, those before it not yet
abbrev pub partly : (row k : ℕ) → List Row → List Row
partly row k rs = take row rs ++ map (raise k) (drop row rs)

module _ (row k : ℕ) (rs : List Row) (h : row ≤ length rs) where
  long : length (take row rs) ≡ row
  long = length-take-le row rs h

  pub partly_length : length (partly row k rs) ≡ length rs
  partly_length = rw (length-append (take row rs), length-map (drop row rs) (raise k), length-drop row rs, long) (omega arith)

  pub partly_at : (i : ℕ) → i < row → row_at i (partly row k rs) ≡ row_at i rs
  partly_at i l =
      let e : i < length (take row rs) = omega (arith, long) in
      get_or-append (take row rs) (map (raise k) (drop row rs)) no_row i e ∙ get_or-take row rs i no_row l

  pub partly_next : (p : ℕ) → p ≤ row → 1 ≤ k → raised p row k (partly row k rs) ≡ partly p (k - 1) (bump p rs)
  partly_next p l g =
      let e : p + (row - p) ≡ row = omega arith in
      let a : List Row = take p rs in
      let b : List Row = take (row - p) (drop p rs) in
      let c : List Row = drop row rs in
      let d : b ++ c ≡ drop p rs =
      ap (λ x. b ++ x) (rw e at (sym (drop-drop (row - p) p rs))) ∙ take-append-drop (row - p) (drop p rs) in
      let f : take row rs ++ map (raise k) c ≡ a ++ (b ++ map (raise k) c) =
      ap (λ x. x ++ map (raise k) c) (rw e at (take-add p (row - p) rs)) ∙ append_assoc a b (map (raise k) c) in
      let la : length a ≡ p = length-take-le p rs (omega arith) in
      let lb : length b ≡ row - p = length-take-le (row - p) (drop p rs) (simp length-drop (omega arith)) in
      let m = sets_mid a b (map (raise k) c) (map (raise k) b) p la (sym (length-map b (raise k))) in
      ap (raised p row k) f ∙ rw (drop_at a (b ++ map (raise k) c) p la, take_at b (map (raise k) c) (row - p) lb, m)
      (rw (← map_append (raise k) b c, d, take_bump p rs, drop_bump p rs, raise_bump k (drop p rs) g))

pub partly_none : (row : ℕ) (rs : List Row) → partly row 0 rs ≡ rs
partly_none row rs = ap (λ (x : List Row). take row rs ++ x) (raise_none (drop row rs)) ∙ take-append-drop row rs

pub partly_all : {row : ℕ} (k : ℕ) (rs : List Row) → row ≡ length rs → partly row k rs ≡ rs
partly_all k rs e = rw (e, drop-length rs, take-length rs) (append-nil rs)

-- ---- the second part of a list

module _ {A : Type 0} where
  set_far : (xs ys : List A) (i : ℕ) (y : A) → set (xs ++ ys) (length xs + i) y ≡ xs ++ set ys i y
  set_far [] ys i y = rw zero-add
  set_far (x ∷ xs) ys i y = rw suc-add (ap (λ (l : List A). x ∷ l) (set_far xs ys i y))

  sets_far : (xs ys : List A) (i : ℕ) (zs : List A) → sets (xs ++ ys) (length xs + i) zs ≡ xs ++ sets ys i zs
  sets_far xs ys i [] = refl
  sets_far xs ys i (z ∷ zs) = rw (set_far xs ys i z, ← add-suc (length xs) i) (sets_far xs (set ys i z) (suc i) zs)

  module _ (xs ys : List A) {n : ℕ} (e : length xs ≡ n) where
    -- rows of the second part moved
    pub shift_far : (from to by : ℕ) → shifted (n + from) (n + to) by (xs ++ ys) ≡ xs ++ shifted from to by ys
    shift_far from to by =
        let k : n + to - (n + from) ≡ to - from = omega arith in
        let i : length xs + from + by ≡ length xs + (from + by) = omega arith in
        rw (k, ← e, drop-append-add xs ys from, i) (sets_far xs ys (from + by) (take (to - from) (drop from ys)))

    -- row p of the first part put over a row of the second
    pub move_far : (p i k : ℕ) (d : A) → p < n → p + k ≡ n + i → shifted p (p + 1) k (xs ++ ys) ≡ xs ++ set ys i (get_or xs p d)
    move_far p i k d h f =
        let o : p + 1 - p ≡ 1 = omega arith in
        let l : p < length (xs ++ ys) = rw (length-append xs ys) (omega arith) in
        let r : p < length xs = omega arith in
        rw (o, f, drop-cons (xs ++ ys) p d l, get_or-append xs ys d p r, ← e) (set_far xs ys i (get_or xs p d))
