-- Desks: which transactions are open and what they wrote, after a begin, a write and a close.
use Prim.Native.Nat.{ℕ, zero, suc, ◌≤◌, min}
use native.Mathlib.Nat.{le_refl}
use native.Mathlib.Omega.{arith}
use mathlib.Core.Path.{◌≡◌, refl, sym, ap, subst, ◌∙◌}
use mathlib.Core.Logic.{◌⊎◌, inl, inr, ⊎_elim}
use mathlib.Core.Bool.{Bool, true, false, cond}
use mathlib.Core.List.Memᴰ
use mathlib.Core.List.{List, [], ◌∷◌, Memᴰ}
use Rattle.std.specs.Prelude.{None, Some, option_map}
use lib.ListN.{length, replicate}
use lib.Dec.{leb, eqb}
use borrow.Author.Tests.{leb-true, leb-false, eqb-true, eqb-false, eq-eqb, ne_eqb}
use Rattle.model.specs.State.{Writes, Transaction, Desk, free, taken, is_some, writes_of, free_desk, open_desks, open_starts, cutoff, begun, seat, redesk, vacated, holding, rewriting}
use Rattle.model.proofs.Cases.{by_bool, by_option, true_false, none_some}

-- some desk has start t
abbrev pub Seated : ℕ → List Desk → Type 0
Seated t ds = is_some (writes_of t ds) ≡ true

-- ---- who is open

pub seated_seat {ℓ} : {P : Type ℓ} (u t : ℕ) (ds : List Desk) → Seated u (seat t ds) → (Seated u ds → P) → (u ≡ t → P) → P
unfolding writes_of seat
seated_seat u t [] h f g = f h
seated_seat u t (free ∷ ds) h f g = by_bool (eqb u t) (λ p. g (eqb-true u t p)) (λ p. f (rw p at h))
seated_seat u t (taken x ∷ ds) h f g =
    by_bool (eqb u x.start) (λ p. f (rw p)) (λ p. seated_seat u t ds (rw p at h) (λ o. f (rw p o)) g)

pub unseated : (t : ℕ) (ds : List Desk) → (Seated t ds → ⊥) → writes_of t ds ≡ None
unseated t ds n = by_option (writes_of t ds) (λ p. p) (λ ws p. absurd (n (rw p)))

-- nobody sits at free desks
pub unseated_free : (t n : ℕ) → writes_of t (replicate n free) ≡ None
unfolding writes_of
unseated_free t zero = refl
unseated_free t (suc n) = unseated_free t n

-- no two desks have one start
abbrev pub Distinct : List Desk → Type 0
Distinct [] = Unit {0}
Distinct (free ∷ ds) = Distinct ds
Distinct (taken x ∷ ds) = (Seated x.start ds → ⊥) × Distinct ds

-- ---- the desk of a start changed

-- the desk is free, or its transaction has start t
abbrev pub FreeOr : ℕ → Desk → Type 0
FreeOr t free = Unit {0}
FreeOr t (taken x) = x.start ≡ t

-- f leaves a transaction its start, or frees its desk
abbrev pub KeepsStart : (Transaction → Desk) → Type 0
KeepsStart f = (x : Transaction) → FreeOr x.start (f x)

pub vacated_keeps : KeepsStart vacated
vacated_keeps x = tt

pub rewriting_keeps : (g : Writes → Writes) → KeepsStart (rewriting g)
rewriting_keeps g x = refl

-- a desk of another start is passed over
passed : (u t : ℕ) (d : Desk) (ds : List Desk) → FreeOr t d → eqb u t ≡ false → writes_of u (d ∷ ds) ≡ writes_of u ds
unfolding writes_of
passed u t free ds s p = refl
passed u t (taken x) ds s p = rw (s, p)

-- one more desk, whose start no other has
distinct_more : (t : ℕ) (d : Desk) (ds : List Desk) → FreeOr t d → (Seated t ds → ⊥) → Distinct ds → Distinct (d ∷ ds)
distinct_more t free ds s n o = o
distinct_more t (taken x) ds s n o = (rw s n, o)

module _ (t : ℕ) (f : Transaction → Desk) (k : KeepsStart f) where
  changed : (b : Bool) (x : Transaction) → FreeOr x.start (cond b (f x) (taken x))
  changed true x = k x
  changed false x = refl

  pub seated_redesk : (u : ℕ) (ds : List Desk) → Seated u (redesk t f ds) → Seated u ds
  unfolding writes_of redesk
  seated_redesk u [] h = h
  seated_redesk u (free ∷ ds) h = seated_redesk u ds h
  seated_redesk u (taken x ∷ ds) h =
      by_bool (eqb u x.start)
      (λ p. rw p)
      (λ p. rw p (seated_redesk u ds (rw (passed u x.start _ (redesk t f ds) (changed (eqb t x.start) x) p) at h)))

  pub writes_other : (u : ℕ) (ds : List Desk) → (t ≡ u → ⊥) → writes_of u (redesk t f ds) ≡ writes_of u ds
  unfolding writes_of redesk
  writes_other u [] n = refl
  writes_other u (free ∷ ds) n = writes_other u ds n
  writes_other u (taken x ∷ ds) n =
      by_bool (eqb t x.start)
      (λ p.
      let q : eqb u x.start ≡ false = ne_eqb u x.start (λ e. n (eqb-true t x.start p ∙ sym e)) in
      rw (p, passed u x.start (f x) (redesk t f ds) (k x) q, q) (writes_other u ds n))
      (λ p. rw (p, writes_other u ds n))

  pub distinct_redesk : (ds : List Desk) → Distinct ds → Distinct (redesk t f ds)
  unfolding redesk
  distinct_redesk [] d = d
  distinct_redesk (free ∷ ds) d = distinct_redesk ds d
  distinct_redesk (taken x ∷ ds) d =
      distinct_more x.start (cond (eqb t x.start) (f x) (taken x)) (redesk t f ds) (changed (eqb t x.start) x) (λ o. d.0 (seated_redesk x.start ds o)) (distinct_redesk ds d.1)

pub redesk_none : (t : ℕ) (f : Transaction → Desk) (ds : List Desk) → (Seated t ds → ⊥) → redesk t f ds ≡ ds
unfolding redesk writes_of
redesk_none t f [] n = refl
redesk_none t f (free ∷ ds) n = rw (redesk_none t f ds n)
redesk_none t f (taken x ∷ ds) n =
    by_bool (eqb t x.start) (λ p. absurd (n (rw p))) (λ p. rw (p, redesk_none t f ds (λ o. n (rw p o))))

pub writes_vacated : (t : ℕ) (ds : List Desk) → writes_of t (redesk t vacated ds) ≡ None
unfolding writes_of redesk
writes_vacated t [] = refl
writes_vacated t (free ∷ ds) = writes_vacated t ds
writes_vacated t (taken x ∷ ds) =
    by_bool (eqb t x.start) (λ p. rw p (writes_vacated t ds)) (λ p. rw (p, p) (writes_vacated t ds))

pub writes_rewriting : (t : ℕ) (g : Writes → Writes) (ds : List Desk) → writes_of t (redesk t (rewriting g) ds) ≡ option_map g (writes_of t ds)
unfolding writes_of redesk
writes_rewriting t g [] = refl
writes_rewriting t g (free ∷ ds) = writes_rewriting t g ds
writes_rewriting t g (taken x ∷ ds) =
    by_bool (eqb t x.start) (λ p. rw (p, p)) (λ p. rw (p, p) (writes_rewriting t g ds))

-- ---- a desk taken

pub writes_seat : (t u : ℕ) (ds : List Desk) → (u ≡ t → ⊥) → writes_of t (seat u ds) ≡ writes_of t ds
unfolding writes_of seat
writes_seat t u [] h = refl
writes_seat t u (free ∷ ds) h = rw (ne_eqb t u (λ e. h (sym e)))
writes_seat t u (taken x ∷ ds) h = rw (writes_seat t u ds h)

pub distinct_seat : (t : ℕ) (ds : List Desk) → (Seated t ds → ⊥) → Distinct ds → Distinct (seat t ds)
unfolding seat writes_of
distinct_seat t [] n d = d
distinct_seat t (free ∷ ds) n d = (n, d)
distinct_seat t (taken x ∷ ds) n d = (
  λ o. seated_seat x.start t ds o d.0 (λ e. n (rw (e, eq-eqb t t refl))),
  distinct_seat t ds (λ o. n (by_bool (eqb t x.start) (λ p. rw p) (λ p. rw p o))) d.1,
)

-- a desk that is free is taken
pub seat_there : (t : ℕ) (ds : List Desk) → is_some (free_desk ds) ≡ true → Seated t (seat t ds)
unfolding free_desk seat writes_of
seat_there t [] h = true_false (sym h)
seat_there t (free ∷ ds) h = rw (eq-eqb t t refl) refl
seat_there t (taken x ∷ ds) h =
    by_bool (eqb t x.start) (λ p. rw p) (λ p. rw p (seat_there t ds (by_option (free_desk ds) (λ q. true_false (sym (rw q at h))) (λ d q. rw q))))

-- ---- the open starts

pub seated_start : (t : ℕ) (ds : List Desk) → Seated t ds → Memᴰ t (open_starts ds)
unfolding writes_of open_starts
seated_start t [] o = true_false (sym o)
seated_start t (free ∷ ds) o = seated_start t ds o
seated_start t (taken x ∷ ds) o =
    by_bool (eqb t x.start)
    (λ p. Memᴰ.head (eqb-true t x.start p))
    (λ p. Memᴰ.tail (seated_start t ds (rw p at o)))

pub start_seated : (t : ℕ) (ds : List Desk) → Memᴰ t (open_starts ds) → Seated t ds
unfolding writes_of open_starts
start_seated t [] m = absurd (Memᴰ.not-nil m)
start_seated t (free ∷ ds) m = start_seated t ds m
start_seated t (taken x ∷ ds) m =
    by_bool (eqb t x.start)
    (λ p. rw p)
    (λ p. rw p
    (⊎_elim (λ e. absurd (eqb-false t x.start p e)) (start_seated t ds) (Memᴰ.cases_cons m)))

pub length_starts : (ds : List Desk) → length (open_starts ds) ≡ open_desks ds
unfolding open_starts open_desks
length_starts [] = refl
length_starts (free ∷ ds) = length_starts ds
length_starts (taken x ∷ ds) = ap suc (length_starts ds)

-- ---- the cutoff

pub cutoff_le : (m : ℕ) (ds : List Desk) → cutoff m ds ≤ m
unfolding cutoff
cutoff_le m [] = le_refl m
cutoff_le m (free ∷ ds) = cutoff_le m ds
cutoff_le m (taken x ∷ ds) = omega (arith, cutoff_le m ds)

pub cutoff_seated : (m t : ℕ) (ds : List Desk) → Seated t ds → cutoff m ds ≤ t
unfolding cutoff writes_of
cutoff_seated m t [] h = true_false (sym h)
cutoff_seated m t (free ∷ ds) h = cutoff_seated m t ds h
cutoff_seated m t (taken x ∷ ds) h =
    by_bool (eqb t x.start)
    (λ p. omega (arith, eqb-true t x.start p))
    (λ p. omega (arith, cutoff_seated m t ds (rw p at h)))

seated_behind : (t : ℕ) (x : Transaction) (ds : List Desk) → Seated t ds → Seated t (taken x ∷ ds)
unfolding writes_of
seated_behind t x ds h = by_bool (eqb t x.start) (λ q. rw q refl) (λ q. rw q h)

-- the cutoff is m or an open start
pub cutoff_one : (m : ℕ) (ds : List Desk) → (cutoff m ds ≡ m) ⊎ Seated (cutoff m ds) ds
unfolding cutoff writes_of
cutoff_one m [] = inl refl
cutoff_one m (free ∷ ds) = cutoff_one m ds
cutoff_one m (taken x ∷ ds) =
    by_bool (leb x.start (cutoff m ds))
    (λ p.
    let e : min x.start (cutoff m ds) ≡ x.start = omega (arith, leb-true x.start (cutoff m ds) p) in
    inr (rw (e, eq-eqb x.start x.start refl) refl))
    (λ p.
    let e : min x.start (cutoff m ds) ≡ cutoff m ds = omega (arith, leb-false x.start (cutoff m ds) p) in
    let one : (cutoff m ds ≡ m) ⊎ Seated (cutoff m ds) (taken x ∷ ds) =
    ⊎_elim inl (λ h. inr (seated_behind (cutoff m ds) x ds h)) (cutoff_one m ds) in
    subst (λ (c : ℕ). (c ≡ m) ⊎ Seated c (taken x ∷ ds)) (sym e) one)

-- ---- what holds of every desk

some_same : {a b : Writes} → Some a ≡ Some b → a ≡ b
some_same e = cc

-- P holds of each open transaction
abbrev pub Every : (Transaction → Type 0) → List Desk → Type 0
Every P [] = Unit {0}
Every P (free ∷ ds) = Every P ds
Every P (taken x ∷ ds) = P x × Every P ds

pub every_map : (P Q : Transaction → Type 0) → ((x : Transaction) → P x → Q x) → (ds : List Desk) → Every P ds → Every Q ds
every_map P Q f [] s = s
every_map P Q f (free ∷ ds) s = every_map P Q f ds s
every_map P Q f (taken x ∷ ds) s = (f x s.0, every_map P Q f ds s.1)

module _ (P : Transaction → Type 0) where
  pub every_seat : (t : ℕ) (ds : List Desk) → P (begun t) → Every P ds → Every P (seat t ds)
  unfolding seat
  every_seat t [] z s = s
  every_seat t (free ∷ ds) z s = (z, s)
  every_seat t (taken x ∷ ds) z s = (s.0, every_seat t ds z s.1)

  pub every_vacated : (t : ℕ) (ds : List Desk) → Every P ds → Every P (redesk t vacated ds)
  unfolding redesk
  every_vacated t [] s = s
  every_vacated t (free ∷ ds) s = every_vacated t ds s
  every_vacated t (taken x ∷ ds) s =
      by_bool (eqb t x.start) (λ p. rw p (every_vacated t ds s.1)) (λ p. rw p (s.0, every_vacated t ds s.1))

  pub every_rewriting : (t : ℕ) (g : Writes → Writes) (ds : List Desk) → Distinct ds
      → ((x : Transaction) → writes_of t ds ≡ Some x.writes → P x → P (holding (g x.writes) x)) → Every P ds → Every P (redesk t (rewriting g) ds)
  unfolding redesk writes_of
  every_rewriting t g [] d h s = s
  every_rewriting t g (free ∷ ds) d h s = every_rewriting t g ds d h s
  every_rewriting t g (taken x ∷ ds) d h s =
      by_bool (eqb t x.start)
      (λ p.
      let n : redesk t (rewriting g) ds ≡ ds = redesk_none t (rewriting g) ds (rw (← eqb-true t x.start p) at d.0) in
      rw (p, n) (h x (rw p) s.0, s.1))
      (λ p. rw p (s.0, every_rewriting t g ds d.1 (λ y e. h y (rw p e)) s.1))

  -- the transaction with start t
  pub every_of : (t : ℕ) (ds : List Desk) → Every P ds → (ws : Writes) → writes_of t ds ≡ Some ws → (x : Transaction) × (x.start ≡ t) × (x.writes ≡ ws) × P x
  unfolding writes_of
  every_of t [] s ws e = none_some e
  every_of t (free ∷ ds) s ws e = every_of t ds s ws e
  every_of t (taken x ∷ ds) s ws e =
      by_bool (eqb t x.start) (λ p. (x, sym (eqb-true t x.start p), some_same (rw p at e), s.0)) (λ p. every_of t ds s.1 ws (rw p at e))

-- ---- nobody is open

pub free_none : (n : ℕ) → open_desks (replicate n free) ≡ 0
unfolding open_desks
free_none zero = refl
free_none (suc n) = free_none n

pub vacant_every : (P : Transaction → Type 0) (ds : List Desk) → open_desks ds ≡ 0 → Every P ds
unfolding open_desks
vacant_every P [] e = tt
vacant_every P (free ∷ ds) e = vacant_every P ds e
vacant_every P (taken x ∷ ds) e = absurd (omega arith)

pub vacant_none : (t : ℕ) (ds : List Desk) → open_desks ds ≡ 0 → writes_of t ds ≡ None
unfolding open_desks writes_of
vacant_none t [] e = refl
vacant_none t (free ∷ ds) e = vacant_none t ds e
vacant_none t (taken x ∷ ds) e = absurd (omega arith)

-- ---- how many

pub length_seat : (t : ℕ) (ds : List Desk) → length (seat t ds) ≡ length ds
unfolding seat
length_seat t [] = refl
length_seat t (free ∷ ds) = refl
length_seat t (taken x ∷ ds) = ap suc (length_seat t ds)

pub length_redesk : (t : ℕ) (f : Transaction → Desk) (ds : List Desk) → length (redesk t f ds) ≡ length ds
unfolding redesk
length_redesk t f [] = refl
length_redesk t f (free ∷ ds) = ap suc (length_redesk t f ds)
length_redesk t f (taken x ∷ ds) = ap suc (length_redesk t f ds)
