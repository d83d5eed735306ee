-- Marks set one after the other, and what is passed over by them.
-- Assumes nothing.
use mathlib.Core.Path.{◌≡◌, refl, ap, ◌∙◌}
use mathlib.Core.Bool.{false}
use mathlib.Core.List.{List, [], ◌∷◌}
use Prim.Native.Nat.{ℕ, suc, ◌+◌, ◌<◌}
use native.Mathlib.Numerals.{add-one}
use native.Mathlib.Omega.{arith}
use borrow.Author.Tests.{ne_eqb}
use lib.ListN.{length, get_or, set, drop, length-set}
use lib.Seq.{get_or-set_same, get_or-set_other, drop-cons}
use Rattle.model.specs.Bytes.{Bytes}
use Rattle.model.specs.State.{Version, Desk, free, taken, is_some, writes_of}
use Rattle.model.proofs.Cases.{true_false}
use Rattle.hall.specs.Tables.{version_at}
use Rattle.desk.specs.Shape.{start_of}
use Rattle.desk_starts.specs.Marks.{mark_count, mark_place, is_marked, Marked, Passed}
use Rattle.desk_starts.proofs.Laws.{none_next}

-- a desk with another start
other_start : (t : ℕ) (x : Desk) (ds : List Desk) → (t ≡ start_of x → ⊥)
    → is_some (writes_of t (x ∷ ds)) ≡ is_some (writes_of t ds)
unfolding writes_of
other_start t free ds n = refl
other_start t (taken x) ds n = rw (ne_eqb t x.start n)

-- a number that has no mark once that of u is set
module _ (m : Bytes) (t u : ℕ) (l : length m ≡ mark_count) (e : is_marked (set m (mark_place u) 1) t ≡ false) where
  other_place : mark_place t ≡ mark_place u → ⊥
  other_place q = true_false (rw (q, get_or-set_same m (mark_place u) 1 0 (omega (arith, l))) at e)

  unmarked_before : is_marked m t ≡ false
  unmarked_before = rw (get_or-set_other m (mark_place u) (mark_place t) 1 0 other_place) at e

module _ {m : Bytes} (ds : List Desk) where
  pub mark_none : length m ≡ mark_count → Marked m ds ds
  mark_none l = record { long = l; starts = λ t e. refl }

  pub mark_next : (i : ℕ) → i < length ds → Marked m ds (drop i ds)
      → Marked (set m (mark_place (start_of (get_or ds i free))) 1) ds (drop (i + 1) ds)
  mark_next i h g =
      let x : Desk = get_or ds i free in
      record {
        long = length-set m (mark_place (start_of x)) 1 ∙ g.long;
        starts = λ t e.
            g.starts t (unmarked_before m t (start_of x) g.long e)
            ∙ rw (drop-cons ds i free h, add-one i)
            (other_start t x (drop (suc i) ds) (λ q. other_place m t (start_of x) g.long e (ap mark_place q)));
      }

unmarked : {m : Bytes} (ds : List Desk) (t : ℕ) → Marked m ds [] → is_marked m t ≡ false → is_some (writes_of t ds) ≡ false
unfolding writes_of
unmarked ds t g e = g.starts t e

pub pass_next : {m : Bytes} (us vs : List Version) (j : ℕ) → j < length vs
    → is_marked m (version_at j vs).number ≡ false → Passed m us (drop j vs) → Passed m us (drop (j + 1) vs)
pass_next us vs j h e p ds g = p ds g ∙ none_next ds vs j h ∙ rw (unmarked ds (version_at j vs).number g e)
