-- Open starts among desks, their range, and the versions that it leaves out.
-- Assumes nothing.
use mathlib.Core.Path.{◌≡◌, refl, sym, ◌∙◌}
use mathlib.Core.Bool.{true, false, not, ◌&&◌, ◌||◌, cond}
use mathlib.Core.List.{List, [], ◌∷◌}
use Prim.Native.Nat.{ℕ, suc, ◌+◌, ◌≤◌, ◌<◌, max}
use native.Mathlib.Numerals.{add-one}
use native.Mathlib.Omega.{arith}
use lib.Dec.{ltb, eqb}
use borrow.Author.Tests.{le-leb, ltb-true, ltb-false, eqb-true, ne_eqb}
use lib.ListN.{length, get_or, drop, drop_of_length-le}
use lib.Seq.{drop-cons}
use Rattle.model.specs.Bytes.{Bytes}
use Rattle.model.specs.State.{Version, Desk, free, taken, is_some, writes_of}
use Rattle.model.specs.Sound.{within}
use Rattle.model.proofs.Cases.{by_bool, true_false, and_intro}
use Rattle.model_laws.proofs.Desks.{Seated}
use Rattle.memory.proofs.Laws.Tests.{fails_too}
use Rattle.hall.specs.Tables.{no_version, version_at}
use Rattle.desk.specs.Layout.{occupied, desks_in}
use Rattle.desk.specs.Shape.{Shaped, start_of}
use Rattle.desk.proofs.Laws.Desks.{Walking}
use Rattle.desk_starts.specs.Starts.{none_starts, last_start, Between, outsiders}

-- ---- a start among desks

start_first : (t : ℕ) (x : Desk) (ds : List Desk) → 1 ≤ t
    → is_some (writes_of t (x ∷ ds)) ≡ (eqb t (start_of x) || is_some (writes_of t ds))
unfolding writes_of
start_first t free ds l = rw (ne_eqb t 0 (λ e. omega arith))
start_first t (taken x) ds l = by_bool (eqb t x.start) (λ p. rw p) (λ p. rw p)

pub start_next : (t : ℕ) (ds : List Desk) (i : ℕ) → 1 ≤ t → i < length ds
    → is_some (writes_of t (drop i ds)) ≡ (eqb t (start_of (get_or ds i free)) || is_some (writes_of t (drop (i + 1) ds)))
start_next t ds i l h = rw (drop-cons ds i free h, add-one i) (start_first t (get_or ds i free) (drop (suc i) ds) l)

none_taken_left : (t : ℕ) (ds : List Desk) → occupied ds ≡ 0 → is_some (writes_of t ds) ≡ false
unfolding occupied writes_of
none_taken_left t [] e = refl
none_taken_left t (free ∷ ds) e = none_taken_left t ds (omega arith)
none_taken_left t (taken x ∷ ds) e = absurd (omega arith)

-- ---- walking by the bits alone, which end at the last open desk

module _ {m : Bytes} {b d : ℕ} where
  pub step_from : Shaped m → b ≡ occupied (drop d (desks_in m)) → Walking m (length (desks_in m)) b d
  step_from s e = record { shaped = s; count = refl; bits = e }

  module _ (g : Walking m (length (desks_in m)) b d) where
    pub step_below : (b ≡ 0 → ⊥) → d < length (desks_in m)
    unfolding occupied
    step_below n =
        by_bool (ltb d (length (desks_in m))) (λ p. ltb-true d (length (desks_in m)) p)
        (λ p. absurd (n (g.bits ∙ rw (drop_of_length-le (desks_in m) (ltb-false d (length (desks_in m)) p)))))

    pub step_end : (t : ℕ) → b ≡ 0 → is_some (writes_of t (drop d (desks_in m))) ≡ false
    step_end t e = none_taken_left t (drop d (desks_in m)) (sym g.bits ∙ e)

-- ---- the range of the open starts

pub last_seated : (t : ℕ) (ds : List Desk) → Seated t ds → t ≤ last_start ds
unfolding last_start writes_of
last_seated t [] h = true_false (sym h)
last_seated t (free ∷ ds) h = omega (arith, last_seated t ds h)
last_seated t (taken x ∷ ds) h =
    by_bool (eqb t x.start)
    (λ p. omega (arith, eqb-true t x.start p))
    (λ p. omega (arith, last_seated t ds (rw p at h)))

inside : {lo hi : ℕ} (t : ℕ) (ds : List Desk) → Between lo hi ds → Seated t ds → within lo hi t ≡ true
inside {lo} {hi} t ds b s = and_intro (le-leb lo t (b.starts t s).0) (le-leb t hi (b.starts t s).1)

pub outside : {lo hi : ℕ} (t : ℕ) (ds : List Desk) → Between lo hi ds
    → within lo hi t ≡ false → is_some (writes_of t ds) ≡ false
outside t ds b e = sym (fails_too (inside t ds b) e)

pub last_next : (g : ℕ) (ds : List Desk) (i : ℕ) → i < length ds
    → max g (last_start (drop i ds)) ≡ max (max g (start_of (get_or ds i free))) (last_start (drop (i + 1) ds))
unfolding last_start
last_next g ds i h = rw (drop-cons ds i free h, add-one i) (omega arith)

-- ---- version by version

pub none_next : (ds : List Desk) (vs : List Version) (j : ℕ) → j < length vs
    → none_starts ds (drop j vs)
    ≡ (not (is_some (writes_of (version_at j vs).number ds)) && none_starts ds (drop (j + 1) vs))
unfolding none_starts
none_next ds vs j h = rw (drop-cons vs j no_version h, add-one j)

-- the versions before the first in the range may be passed over
pub pass_over : {lo hi : ℕ} (ds : List Desk) (vs : List Version) → Between lo hi ds
    → none_starts ds (drop (outsiders lo hi vs) vs) ≡ none_starts ds vs
unfolding none_starts outsiders
pass_over ds [] b = refl
pass_over {lo} {hi} ds (v ∷ vs) b =
    by_bool (within lo hi v.number) (λ p. rw p) (λ p. rw (p, outside v.number ds b p) (pass_over ds vs b))

pub none_between : {lo hi : ℕ} (ds : List Desk) (vs : List Version) → Between lo hi ds
    → length vs ≤ outsiders lo hi vs → true ≡ none_starts ds vs
unfolding none_starts
none_between ds vs b h = rw (drop_of_length-le vs h) at (pass_over ds vs b)

pub out_next : (lo hi : ℕ) (vs : List Version) (j : ℕ) → j < length vs
    → j + outsiders lo hi (drop j vs)
    ≡ cond (within lo hi (version_at j vs).number) j (j + 1 + outsiders lo hi (drop (j + 1) vs))
unfolding outsiders
out_next lo hi vs j h =
    rw (drop-cons vs j no_version h, add-one j)
    (by_bool (within lo hi (version_at j vs).number) (λ p. rw p (omega arith)) (λ p. rw p (omega arith)))
