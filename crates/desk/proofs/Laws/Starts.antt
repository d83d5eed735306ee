-- Desks by their starts: what the model does to the desk of a start is done to the desk at its place.
-- Assumes nothing.
use mathlib.Core.Path.{◌≡◌, refl, sym, ap, ◌∙◌}
use mathlib.Core.Bool.{cond}
use mathlib.Core.List.{List, [], ◌∷◌}
use Rattle.std.specs.Prelude.{Option, None, Some, option_map}
use Prim.Native.Nat.{ℕ, suc, ◌+◌, ◌<◌, min}
use native.Mathlib.Numerals.{add-one}
use native.Mathlib.Omega.{arith}
use lib.Dec.{eqb}
use borrow.Author.Tests.{eqb-true}
use lib.ListN.{length, get_or, drop, set}
use lib.Seq.{drop-cons}
use Rattle.model.specs.State.{Transaction, Desk, free, taken, writes_of, free_desk, cutoff, begun, seat, redesk, vacated}
use Rattle.model.proofs.Cases.{by_bool, none_some, zero_one}
use Rattle.model_laws.proofs.Desks.{Distinct, redesk_none}
use Rattle.desk.specs.Shape.{bit, own_writes, IsTaken, is_at, desk_of, reseat}

-- ---- the lowest free desk

-- a place in the tail of a list
place_suc : {P : Type 0} (o : Option ℕ) (d : ℕ) → option_map suc o ≡ Some d → ((k : ℕ) → o ≡ Some k → d ≡ suc k → P) → P
place_suc None d e f = none_some e
place_suc (Some k) d e f = f k refl (cc)

unmap : (o : Option ℕ) → option_map suc o ≡ None → o ≡ None
unmap None e = refl
unmap (Some k) e = none_some (sym e)

pub record FreeAt (ds : List Desk) (d : ℕ) : Type 0 where
  pub below : d < length ds
  pub vacant : get_or ds d free ≡ free
  pub seats : (t : ℕ) → seat t ds ≡ set ds d (taken (begun t))

pub free_at : (ds : List Desk) (d : ℕ) → free_desk ds ≡ Some d → FreeAt ds d
unfolding free_desk seat
free_at [] d e = none_some e
free_at (free ∷ ds) d e = let q : 0 ≡ d = cc in rw (← q) (record { below = omega arith; vacant = refl; seats = λ t. refl })
free_at (taken x ∷ ds) d e =
    place_suc _ d e
    (λ k p q. let r = free_at ds k p in rw q (record { below = omega arith; vacant = r.vacant; seats = λ t. rw (r.seats t) }))

-- ---- the desk of a start

pub record OpenAt (t : ℕ) (ds : List Desk) (d : ℕ) : Type 0 where
  pub below : d < length ds
  pub is_open : IsTaken (get_or ds d free)
  pub writes : writes_of t ds ≡ Some (own_writes (get_or ds d free))

pub open_at : (t : ℕ) (ds : List Desk) (d : ℕ) → desk_of t ds ≡ Some d → OpenAt t ds d
unfolding desk_of writes_of
open_at t [] d e = none_some e
open_at t (free ∷ ds) d e =
    place_suc _ d e (λ k p q. let r = open_at t ds k p in rw q
    (record { below = omega arith; is_open = r.is_open; writes = r.writes }))
open_at t (taken x ∷ ds) d e =
    by_bool (eqb t x.start)
    (λ p. let q : 0 ≡ d = cc (rw p at e) in rw (← q) (record { below = omega arith; is_open = tt; writes = rw p }))
    (λ p. place_suc (desk_of t ds) d (rw p at e)
    (λ k q n. let r = open_at t ds k q in rw n (record { below = omega arith; is_open = r.is_open; writes = rw p r.writes })))

pub not_open : (t : ℕ) (ds : List Desk) → desk_of t ds ≡ None → writes_of t ds ≡ None
unfolding desk_of writes_of
not_open t [] e = refl
not_open t (free ∷ ds) e = not_open t ds (unmap (desk_of t ds) e)
not_open t (taken x ∷ ds) e =
    by_bool (eqb t x.start) (λ p. none_some (sym (rw p at e))) (λ p. rw p (not_open t ds (unmap (desk_of t ds) (rw p at e))))

pub redesk_at : (t : ℕ) (f : Transaction → Desk) (ds : List Desk) (d : ℕ) → Distinct ds → desk_of t ds ≡ Some d → redesk t f ds ≡ set ds d (reseat f (get_or ds d free))
unfolding redesk desk_of
redesk_at t f [] d s e = none_some e
redesk_at t f (free ∷ ds) d s e = place_suc _ d e (λ k p q. rw (q, redesk_at t f ds k s p))
redesk_at t f (taken x ∷ ds) d s e =
    by_bool _
    (λ p. let q : 0 ≡ d = cc (rw p at e) in rw (← q, p, redesk_none t f ds (rw (← eqb-true t x.start p) at s.0)))
    (λ p. place_suc (desk_of t ds) d (rw p at e) (λ k q n. rw (n, p, redesk_at t f ds k s.1 q)))

reseat_vacated : (y : Desk) → reseat vacated y ≡ free
reseat_vacated free = refl
reseat_vacated (taken x) = refl

pub vacated_at : (t : ℕ) (ds : List Desk) (d : ℕ) → Distinct ds → desk_of t ds ≡ Some d → redesk t vacated ds ≡ set ds d free
vacated_at t ds d s e = redesk_at t _ ds d s e ∙ ap (λ (y : Desk). set ds d y) (reseat_vacated (get_or ds d free))

-- ---- walking over desks

abbrev pub from : ℕ → Option ℕ → Option ℕ
from i o = option_map (λ k. i + k) o

from_suc : (i : ℕ) (o : Option ℕ) → from i (option_map suc o) ≡ from (suc i) o
from_suc i None = refl
from_suc i (Some k) = let e : i + suc k ≡ suc i + k = omega arith in rw e

desk_first : (t i : ℕ) (x : Desk) (ds : List Desk) → from i (desk_of t (x ∷ ds)) ≡ cond (is_at t x) (Some i) (from (suc i) (desk_of t ds))
unfolding desk_of
desk_first t i free ds = from_suc i (desk_of t ds)
desk_first t i (taken x) ds =
    by_bool (eqb t x.start) (λ p. let e : i + 0 ≡ i = omega arith in rw (p, e)) (λ p. rw p (from_suc i (desk_of t ds)))

cutoff_min : (m u : ℕ) (ds : List Desk) → min u (cutoff m ds) ≡ cutoff (min u m) ds
unfolding cutoff
cutoff_min m u [] = refl
cutoff_min m u (free ∷ ds) = cutoff_min m u ds
cutoff_min m u (taken x ∷ ds) = rw (← cutoff_min m u ds) (omega arith)

cutoff_cons : (m : ℕ) (x : Desk) (ds : List Desk) → cutoff m (x ∷ ds) ≡ cutoff (cutoff m (x ∷ [])) ds
unfolding cutoff
cutoff_cons m free ds = refl
cutoff_cons m (taken x) ds = cutoff_min m _ ds

-- at desk i
module _ (ds : List Desk) (i : ℕ) (h : i < length ds) where
  pub desk_next : (t : ℕ) → from i (desk_of t (drop i ds)) ≡ cond (is_at t (get_or ds i free)) (Some i) (from (i + 1) (desk_of t (drop (i + 1) ds)))
  desk_next t = rw (drop-cons ds i free h, add-one i) (desk_first t i _ _)

  pub cutoff_step : {u : ℕ} (m : ℕ) → u ≡ cutoff m (get_or ds i free ∷ []) → cutoff m (drop i ds) ≡ cutoff u (drop (i + 1) ds)
  cutoff_step m e = rw (e, drop-cons ds i free h, add-one i) (cutoff_cons m _ _)

pub from_start : (o : Option ℕ) → from 0 o ≡ o
from_start None = refl
from_start (Some k) = let e : 0 + k ≡ k = omega arith in rw e

-- ---- one desk, by its bit

module _ {b : ℕ} where
  pub bit_free : (x : Desk) → b ≡ bit x → b ≡ 0 → x ≡ free
  bit_free free e z = refl
  bit_free (taken x) e z = zero_one (sym z ∙ e)

  pub bit_taken : {P : Type 0} (x : Desk) → b ≡ bit x → (b ≡ 0 → ⊥) → ((y : Transaction) → x ≡ taken y → P) → P
  bit_taken free e n f = absurd (n e)
  bit_taken (taken x) e n f = f x refl
