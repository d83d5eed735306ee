-- Rows put into a list from the last to the first: those from some row on stand further up, all before them are as they were.
-- Assumes nothing.
use mathlib.Core.Path.{◌≡◌, refl, sym, ap, ◌∙◌}
use mathlib.Core.List.{List, [], ◌∷◌, ◌++◌, append_assoc}
use Prim.Native.Nat.{ℕ, zero, suc, ◌+◌, ◌-◌, ◌≤◌, ◌<◌}
use native.Mathlib.Nat.{le_of_suc-le-suc, not-suc-le-zero}
use native.Mathlib.Omega.{arith}
use lib.ListN.{length, get_or, take, drop, set, length-take, length-drop, take-append-drop}
use lib.Seq.{sets, sets-eq, length-sets, take-take, drop-drop, drop-length, take-length}
use Rattle.memory.specs.Rows.{insert_at}
use Rattle.memory.proofs.Laws.Parts.{take_sets, get_or_sets_below, sets_front, drop_take}
use Rattle.memory.proofs.Laws.Rows.{length_insert_at}
use Rattle.hall_rows.specs.Runs.{shifted}

module _ {A : Type 0} where
  pub drop_insert : (p : ℕ) (x : A) (xs : List A) → p ≤ length xs → drop p (insert_at p x xs) ≡ x ∷ drop p xs
  unfolding insert_at
  drop_insert zero x xs h = refl
  drop_insert (suc p) x [] h = absurd (not-suc-le-zero h)
  drop_insert (suc p) x (y ∷ xs) h = drop_insert p x xs (le_of_suc-le-suc h)

  pub take_insert : (p : ℕ) (x : A) (xs : List A) → p ≤ length xs → take p (insert_at p x xs) ≡ take p xs
  unfolding insert_at
  take_insert zero x xs h = refl
  take_insert (suc p) x [] h = absurd (not-suc-le-zero h)
  take_insert (suc p) x (y ∷ xs) h = ap (λ (l : List A). y ∷ l) (take_insert p x xs (le_of_suc-le-suc h))

-- l is l₀ in which L is made: its rows from row `top` on stand k rows further up, those before it are in l₀ already
pub record Opened {A : Type 0} (l₀ L : List A) (top k : ℕ) (l : List A) : Type 0 where
  pub first : take top L ≡ take top l₀
  pub below : top ≤ length L
  pub room : length L + k ≤ length l₀
  pub same : l ≡ sets l₀ (top + k) (drop top L)

module _ {A : Type 0} {l₀ L : List A} where
  pub opened_start : {top k : ℕ} → top ≡ length L → take (length L) l₀ ≡ L → length L + k ≤ length l₀ → Opened l₀ L top k l₀
  opened_start {top} {k} e f h = record { first = rw (e, f) (take-length L); below = omega arith; room = h; same = rw (e, drop-length L) }

  module _ {top k : ℕ} {l : List A} (o : Opened l₀ L top k l) where
    -- rows p up to `top` moved up to the others
    moved : (p : ℕ) → p ≤ top → shifted p top k l ≡ sets l₀ (p + k) (drop p L)
    moved p h =
        let e : p + (top - p) ≡ top = omega arith in
        let run : List A = take (top - p) (drop p L) in
        let cut : (xs : List A) → take (top - p) (drop p xs) ≡ drop p (take top xs) = λ xs. rw e at (sym (drop_take p (top - p) xs)) in
        let low : take top l ≡ take top L = ap (take top) o.same ∙ take_sets l₀ (top + k) (drop top L) top (omega arith) ∙ sym o.first in
        let t : take (top - p) (drop p l) ≡ run = cut l ∙ ap (drop p) low ∙ sym (cut L) in
        let n : length run ≡ top - p = simp (length-take, length-drop) (omega (arith, o.below)) in
        let a : top + k ≡ p + k + length run = omega arith in
        let b : run ++ drop top L ≡ drop p L = ap (λ (r : List A). run ++ r) (rw e at (sym (drop-drop (top - p) p L))) ∙ take-append-drop (top - p) (drop p L) in
        ap (sets l (p + k)) t ∙ ap (λ (r : List A). sets r (p + k) run) (o.same ∙ ap (λ (i : ℕ). sets l₀ i (drop top L)) a) ∙ sets_front l₀ (p + k) run (drop top L) ∙ ap (sets l₀ (p + k)) b

    -- a row put in before row p
    pub opened_insert : (p : ℕ) (x : A) → p ≤ top → 1 ≤ k → Opened l₀ (insert_at p x L) p (k - 1) (set (shifted p top k l) (p + (k - 1)) x)
    opened_insert p x h g =
        let b : p ≤ length L = omega (arith, o.below) in
        let n : length (insert_at p x L) ≡ suc (length L) = length_insert_at p x L in
        let e : p + k ≡ p + (k - 1) + 1 = omega arith in
        record {
          first = take_insert p x L b ∙ sym (take-take p top L h) ∙ ap (take p) o.first ∙ take-take p top l₀ h;
          below = omega arith;
          room = omega (arith, o.room);
          same = ap (λ (r : List A). set r (p + (k - 1)) x) (moved p h ∙ ap (λ (i : ℕ). sets l₀ i (drop p L)) e)
              ∙ sets_front l₀ (p + (k - 1)) (x ∷ []) (drop p L) ∙ ap (sets l₀ (p + (k - 1))) (sym (drop_insert p x L b));
        }

    -- all rows moved up
    pub opened_end : shifted 0 top k l ≡ sets l₀ k L
    opened_end =
        let z : 0 + k ≡ k = omega arith in
        moved 0 (omega arith) ∙ ap (λ (i : ℕ). sets l₀ i L) z

    -- a row that did not move
    pub opened_get : (i : ℕ) (d : A) → i < top → get_or l i d ≡ get_or l₀ i d
    opened_get i d h = ap (λ (r : List A). get_or r i d) o.same ∙ get_or_sets_below l₀ (top + k) (drop top L) i d (omega arith)

    pub opened_length : length l ≡ length l₀
    opened_length = ap length o.same ∙ length-sets l₀ (top + k) (drop top L)

  pub opened_done : {top : ℕ} {l : List A} → Opened l₀ L top 0 l → l ≡ L ++ drop (length L) l₀
  opened_done {top} o =
      let z : top + 0 ≡ top = omega arith in
      let n : length (drop top L) ≡ length L - top = length-drop top L in
      let e : top + length (drop top L) ≡ length L = omega (arith, o.below) in
      let g : sets l₀ top (drop top L) ≡ take top L ++ (drop top L ++ drop (length L) l₀) =
      sets-eq (drop top L) l₀ top (omega (arith, o.below, o.room)) ∙ rw (e, o.first) (append_assoc (take top l₀) (drop top L) (drop (length L) l₀)) in
      let a : take top L ++ (drop top L ++ drop (length L) l₀) ≡ L ++ drop (length L) l₀ =
      sym (append_assoc (take top L) (drop top L) (drop (length L) l₀)) ∙ ap (λ (r : List A). r ++ drop (length L) l₀) (take-append-drop top L) in
      o.same ∙ ap (λ (i : ℕ). sets l₀ i (drop top L)) z ∙ g ∙ a
