-- Chains: what a number sees of one, what it can't tell, and that the newest version is the highest.
use Prim.Native.Nat.{ℕ, ◌≤◌, ◌<◌}
use native.Mathlib.Nat.{le_refl}
use native.Mathlib.Omega.{arith}
use mathlib.Core.Path.{◌≡◌, refl, sym, ◌∙◌}
use mathlib.Core.Logic.{⊎_elim}
use mathlib.Core.Bool.{Bool, true, false}
use mathlib.Core.List.Memᴰ
use mathlib.Core.List.{[], ◌∷◌, ◌++◌, append-nil, Memᴰ}
use Rattle.std.specs.Prelude.{Option, None, Some, option_map}
use lib.Dec.{leb, ltb}
use borrow.Author.Tests.{leb-true, ltb-true, le-leb, lt-ltb, le-ltb}
use Rattle.model.specs.State.{Payload, deletion, Version, Chain, or_else, given, visible, newest_of, value_of}
use Rattle.model.specs.Calls.{above}
use Rattle.model.specs.History.{Rising, stamp}
use Rattle.model.proofs.Cases.{by_bool, none_some}

-- ---- what may be missing

pub or_else_assoc : {A : Type 0} (a b c : Option A) → or_else a (or_else b c) ≡ or_else (or_else a b) c
or_else_assoc None b c = refl
or_else_assoc (Some a) b c = refl

pub or_else_none : {A : Type 0} (a : Option A) → or_else a None ≡ a
or_else_none None = refl
or_else_none (Some a) = refl

pub or_else_full : {A : Type 0} (a : Option A) (b : A) (c : Option A) → or_else (or_else a (Some b)) c ≡ or_else a (Some b)
or_else_full None b c = refl
or_else_full (Some a) b c = refl

pub visible_append : (t : ℕ) (a b : Chain) → visible t (a ++ b) ≡ or_else (visible t b) (visible t a)
unfolding visible
visible_append t [] b = sym (or_else_none (visible t b))
visible_append t (v ∷ vs) b = rw (visible_append t vs b) (sym (or_else_assoc (visible t b) (visible t vs) _))

pub newest_append : (a b : Chain) → newest_of (a ++ b) ≡ or_else (newest_of b) (newest_of a)
unfolding newest_of
newest_append [] b = sym (or_else_none (newest_of b))
newest_append (v ∷ vs) b = rw (newest_append vs b) (sym (or_else_assoc (newest_of b) (newest_of vs) _))

-- ---- numbers strictly ascend, above lo and up to hi

pub rising_mono : (lo hi hi' : ℕ) (l : Chain) → hi ≤ hi' → Rising lo hi l → Rising lo hi' l
rising_mono lo hi hi' [] h r = omega arith
rising_mono lo hi hi' (v ∷ vs) h r = (r.0, rising_mono v.number hi hi' vs h r.1)

pub rising_le : (lo hi : ℕ) (l : Chain) → Rising lo hi l → lo ≤ hi
rising_le lo hi [] r = r
rising_le lo hi (v ∷ vs) r = omega (arith, r.0, rising_le v.number hi vs r.1)

pub rising_lower : (lo lo' hi : ℕ) (l : Chain) → lo ≤ lo' → Rising lo' hi l → Rising lo hi l
rising_lower lo lo' hi [] h r = omega arith
rising_lower lo lo' hi (v ∷ vs) h r = (omega (arith, r.0), r.1)

rising_snoc : (lo hi : ℕ) (l : Chain) (v : Version) → hi < v.number → Rising lo hi l → Rising lo v.number (l ++ v ∷ [])
rising_snoc lo hi [] v h r = (omega arith, le_refl _)
rising_snoc lo hi (x ∷ l) v h r = (r.0, rising_snoc x.number hi l v h r.1)

pub rising_stamp : (hi n : ℕ) (l : Chain) (o : Option Payload) → hi < n → Rising 0 hi l → Rising 0 n (l ++ stamp (Some n) o)
unfolding stamp
rising_stamp hi n l None h r = rw (append-nil l) (rising_mono 0 hi n l (omega arith) r)
rising_stamp hi n l (Some p) h r = rising_snoc 0 hi l _ h r

-- the newest version is what the highest number sees
pub visible_newest : (lo hi : ℕ) (l : Chain) → Rising lo hi l → visible hi l ≡ newest_of l
unfolding visible newest_of
visible_newest lo hi [] r = refl
visible_newest lo hi (v ∷ vs) r =
    rw (visible_newest v.number hi vs r.1, le-leb v.number hi (rising_le v.number hi vs r.1))

-- ---- what a number can tell of a chain

-- t can't tell r from l: a read at t, and a conflict with what came after t
abbrev pub Like : (t : ℕ) → (r l : Chain) → Type 0
Like t r l = (value_of (visible t r) ≡ value_of (visible t l)) × (above t (newest_of r) ≡ above t (newest_of l))

pub like_refl : (t : ℕ) (l : Chain) → Like t l l
like_refl t l = (refl, refl)

pub like_trans : (t : ℕ) (a b c : Chain) → Like t a b → Like t b c → Like t a c
like_trans t a b c p q = (p.0 ∙ q.0, p.1 ∙ q.1)

-- what can't tell two versions apart can't either where a later one may stand before them
or_else_same : {X : Type 0} (f : Option Version → X) (b b' a : Option Version)
    → f b ≡ f b' → f (or_else a b) ≡ f (or_else a b')
or_else_same f b b' None e = e
or_else_same f b b' (Some v) e = refl

pub like_append : (t : ℕ) (r l g : Chain) → Like t r l → Like t (r ++ g) (l ++ g)
like_append t r l g e = (
  rw (visible_append t r g, visible_append t l g)
      (or_else_same value_of (visible t r) (visible t l) (visible t g) e.0),
  rw (newest_append r g, newest_append l g)
      (or_else_same (above t) (newest_of r) (newest_of l) (newest_of g) e.1),
)

-- a version is not missed by t where the next is seen whenever it is
pub covered_same : (t : ℕ) (v w : Version) (ws : Chain) → (v.number ≤ t → w.number ≤ t)
    → (visible t (w ∷ ws) ≡ visible t (v ∷ w ∷ ws)) × (newest_of (w ∷ ws) ≡ newest_of (v ∷ w ∷ ws))
unfolding visible newest_of
covered_same t v w ws h = (
  by_bool (leb v.number t)
      (λ p. rw (p, le-leb w.number t (h (leb-true _ _ p))) (sym (or_else_full (visible t ws) w _)))
      (λ p. rw p (sym (or_else_none (visible t (w ∷ ws))))),
  sym (or_else_full (newest_of ws) w _),
)

-- nor is the oldest, if it is a deletion at or below t
pub deleted_like : (t : ℕ) (v : Version) (vs : Chain) → v.payload ≡ deletion → v.number ≤ t → Like t vs (v ∷ vs)
unfolding visible newest_of above
deleted_like t v vs e h = (sight (visible t vs) (leb v.number t), clash (newest_of vs))
  where
    sight : (o : Option Version) (b : Bool) → value_of o ≡ value_of (or_else o (given b v))
    sight None true = rw e
    sight None false = refl
    sight (Some x) b = refl

    clash : (o : Option Version) → above t o ≡ above t (or_else o (Some v))
    clash None = rw (le-ltb t v.number h)
    clash (Some x) = refl

-- ---- the newest version is the highest

-- v is the newest of l, and the highest
record Last (l : Chain) (v : Version) : Type 0 where
  newest : newest_of l ≡ Some v
  there : Memᴰ v l
  top : (u : Version) → Memᴰ u l → u.number ≤ v.number

last : (lo hi : ℕ) (w : Version) (ws : Chain) → Rising lo hi (w ∷ ws) → (v : Version) × Last (w ∷ ws) v
unfolding newest_of
last lo hi w [] r = (
  w,
  record {
    newest = refl;
    there = Memᴰ.head refl;
    top = λ u m. ⊎_elim (λ e. rw e (le_refl _)) (λ d. absurd (Memᴰ.not-nil d)) (Memᴰ.cases_cons m);
  },
)
last lo hi w (x ∷ xs) r =
    let t = last w.number hi x xs r.1 in (
      t.0,
      record {
        newest = rw t.1.newest;
        there = Memᴰ.tail t.1.there;
        top = λ u m. ⊎_elim (λ e. rw e (omega (arith, r.1.0, t.1.top x (Memᴰ.head refl)))) (t.1.top u) (Memᴰ.cases_cons m);
      },
    )

-- some version is above t exactly if the newest is
pub above_some : (t lo hi : ℕ) (l : Chain) → Rising lo hi l → (v : Version) → Memᴰ v l → t < v.number
    → (n : ℕ) × (above t (newest_of l) ≡ Some n)
unfolding above
above_some t lo hi [] r v m h = absurd (Memᴰ.not-nil m)
above_some t lo hi (w ∷ ws) r v m h =
    let z = last lo hi w ws r in
    (z.0.number, rw (z.1.newest, lt-ltb t z.0.number (omega (arith, z.1.top v m))))

pub record Top (t : ℕ) (l : Chain) (n : ℕ) : Type 0 where
  pub version : Version
  pub there : Memᴰ version l
  pub higher : t < version.number
  pub newest : option_map (λ (v : Version). v.number) (newest_of l) ≡ Some n

pub some_above : (t lo hi : ℕ) (l : Chain) → Rising lo hi l → (n : ℕ) → above t (newest_of l) ≡ Some n → Top t l n
unfolding above newest_of
some_above t lo hi [] r n e = none_some e
some_above t lo hi (w ∷ ws) r n e =
    let z = last lo hi w ws r in
    let e' : given (ltb t z.0.number) z.0.number ≡ Some n = rw z.1.newest at e in
    by_bool (ltb t z.0.number)
    (λ p. record { version = z.0; there = z.1.there; higher = ltb-true _ _ p; newest = rw z.1.newest (rw p at e') })
    (λ p. none_some (rw p at e'))
