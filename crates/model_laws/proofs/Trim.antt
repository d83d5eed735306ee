-- What a rule leaves of a chain, and what the rule of a cutoff does, which spares no reader by name.
use Prim.Native.Nat.{ℕ, ◌≤◌, ◌<◌, max}
use native.Mathlib.Nat.{le_refl}
use native.Mathlib.Omega.{arith}
use mathlib.Core.Path.{◌≡◌, refl, sym, ap, ◌∙◌}
use mathlib.Core.Logic.{◌⊎◌, inl, inr, ⊎_elim}
use mathlib.Core.Bool.{Bool, true, false, ◌&&◌, ◌||◌}
use mathlib.Core.List.Memᴰ
use mathlib.Core.List.{[], ◌∷◌, ◌++◌, append-nil, Memᴰ}
use Rattle.std.specs.Prelude.{Option, None, Some}
use lib.ListN.{length}
use lib.Dec.{leb}
use borrow.Author.Tests.{leb-true, leb-false, le-leb, lt-leb, lt-ltb, le-ltb}
use Rattle.model.specs.State.{Payload, deletion, Version, Chain, is_deletion, given, visible}
use Rattle.model.specs.Sweeps.{Rule, is_read, is_clear, is_covered, goes, trim}
use Rattle.model.specs.History.{Rising, stamp}
use Rattle.model.specs.Demands.{newer_than, held}
use Rattle.model.proofs.Cases.{by_bool, true_false, and_left, and_right, and_true, and_false, or_left, or_right, is_deletion_lem}
use Rattle.model_laws.proofs.Chains.{or_else_full, rising_mono, rising_lower, Like}

-- ---- any rule

-- t can't tell what the rule leaves: all that reads, conflicts and the striking of sweeps ask of a rule
abbrev pub Spares : Rule → (t : ℕ) → Type 0
Spares g t = (lo hi : ℕ) (l : Chain) → Rising lo hi l → Like t (trim g l) l

-- what holds of a chain and what is left of it, from the last version on
pub by_trim : (g : Rule) (P : Chain → Chain → Type 0) → P [] []
    → ((v : Version) (vs r : Chain) → P vs r → P (v ∷ vs) r)
    → ((v : Version) (vs r : Chain) → P vs r → P (v ∷ vs) (v ∷ r)) → (l : Chain) → P l (trim g l)
unfolding trim
by_trim g P z drops keeps [] = z
by_trim g P z drops keeps (v ∷ vs) =
    let i = by_trim g P z drops keeps vs in
    by_bool (g v vs) (λ p. rw p (drops v vs _ i)) (λ p. rw p (keeps v vs _ i))

pub rising_trim : (g : Rule) (lo hi : ℕ) (l : Chain) → Rising lo hi l → Rising lo hi (trim g l)
rising_trim g lo hi l r =
    by_trim g (λ l m. (lo : ℕ) → Rising lo hi l → Rising lo hi m) (λ lo r. r)
    (λ v vs m f lo r. f lo (rising_lower lo v.number hi vs (omega (arith, r.0)) r.1))
    (λ v vs m f lo r. (r.0, f v.number r.1)) l lo r

pub length_trim : (g : Rule) (l : Chain) → length (trim g l) ≤ length l
length_trim g l =
    by_trim g (λ l r. length r ≤ length l) (le_refl _) (λ v vs r e. omega arith) (λ v vs r e. omega arith) l

-- ---- the rule of a cutoff

-- the next covers a version that goes, or it is a deletion
goes_as {ℓ} : {P : Type ℓ} (c : ℕ) (v : Version) (vs : Chain) → goes c [] v vs ≡ true
    → (is_covered c [] v vs ≡ true → P) → (is_covered c [] v vs ≡ false → v.payload ≡ deletion → v.number ≤ c → P) → P
unfolding goes is_clear is_read
goes_as c v vs g f h =
    let d = is_deletion v.payload in
    by_bool (is_covered c [] v vs) f
    (λ p.
    let e : (d && leb v.number c) ≡ true = rw p at g in
    h p (is_deletion_lem v.payload (and_left d _ e)) (leb-true _ _ (and_right d (leb v.number c) e)))

-- a version above the cutoff stays
above_stays : (c hi : ℕ) (v : Version) (vs : Chain) → c < v.number → Rising v.number hi vs → goes c [] v vs ≡ false
unfolding goes is_covered is_clear is_read
above_stays c hi v [] h r = rw (lt-leb v.number c h) (sym (and_false (is_deletion v.payload)))
above_stays c hi v (w ∷ ws) h r =
    rw (lt-leb w.number c (omega (arith, r.0)), lt-leb v.number c h) (sym (and_false (is_deletion v.payload)))

-- a cutoff below all numbers leaves all
pub trim_idle : (c lo hi : ℕ) (l : Chain) → c ≤ lo → Rising lo hi l → trim (goes c []) l ≡ l
unfolding trim
trim_idle c lo hi [] h r = refl
trim_idle c lo hi (v ∷ vs) h r =
    rw (
      above_stays c hi v vs (omega (arith, r.0)) r.1,
      trim_idle c v.number hi vs (omega (arith, r.0)) r.1,
    )

-- what comes after a version that is not covered is above the cutoff, and stays
rest_above : (c hi : ℕ) (v : Version) (vs : Chain) → is_covered c [] v vs ≡ false → Rising v.number hi vs
    → Rising c (max c hi) vs
unfolding is_covered is_clear is_read
rest_above c hi v [] p r = omega arith
rest_above c hi v (w ∷ ws) p r = (leb-false _ _ p, rising_mono w.number hi _ ws (omega arith) r.1)

rest_stays : (c hi : ℕ) (v : Version) (vs : Chain) → is_covered c [] v vs ≡ false → Rising v.number hi vs
    → trim (goes c []) vs ≡ vs
rest_stays c hi v vs p r = trim_idle c c _ vs (le_refl c) (rest_above c hi v vs p r)

not_covered : (c : ℕ) (v : Version) (vs : Chain) → goes c [] v vs ≡ false → is_covered c [] v vs ≡ false
unfolding goes
not_covered c v vs g = or_left (is_covered c [] v vs) _ g

-- ---- with a later version, and after another sweep

covered_snoc : (c : ℕ) (x : Version) (l : Chain) (v : Version) → c < v.number
    → is_covered c [] x (l ++ v ∷ []) ≡ is_covered c [] x l
unfolding is_covered is_clear is_read
covered_snoc c x [] v h = lt-leb v.number c h
covered_snoc c x (y ∷ l) v h = refl

trim_snoc : (c : ℕ) (l : Chain) (v : Version) → c < v.number
    → trim (goes c []) (l ++ v ∷ []) ≡ trim (goes c []) l ++ v ∷ []
unfolding trim goes
trim_snoc c [] v h = trim_idle c c v.number (v ∷ []) (le_refl c) (h, le_refl _)
trim_snoc c (x ∷ l) v h =
    rw (covered_snoc c x l v h, trim_snoc c l v h)
    (by_bool (is_covered c [] x l || (is_deletion x.payload && is_clear c [] 0 x.number)) (λ p. rw p) (λ p. rw p))

pub trim_stamp : (c n : ℕ) (l : Chain) (o : Option Payload) → c < n
    → trim (goes c []) l ++ stamp (Some n) o ≡ trim (goes c []) (l ++ stamp (Some n) o)
unfolding stamp
trim_stamp c n l None h = append-nil _ ∙ ap (trim (goes c [])) (sym (append-nil l))
trim_stamp c n l (Some p) h = sym (trim_snoc c l _ h)

-- what goes at the larger of two cutoffs goes at one of them
leb_max : (x d c : ℕ) → leb x (max d c) ≡ (leb x d || leb x c)
leb_max x d c =
    by_bool (leb x d)
    (λ p. rw (p, le-leb x (max d c) (omega (arith, leb-true x d p))))
    (λ p. rw p (by_bool (leb x c)
    (λ q. rw (q, le-leb x (max d c) (omega (arith, leb-true x c q))))
    (λ q. rw (q, lt-leb x (max d c) (omega (arith, leb-false x d p, leb-false x c q))))))

either : (a b d p q : Bool) → ((a || b) || (d && (p || q))) ≡ ((a || (d && p)) || (b || (d && q)))
either true b d p q = refl
either false true true true q = refl
either false true true false q = refl
either false true false p q = refl
either false false true p q = refl
either false false false p q = refl

goes_max : (d c : ℕ) (v : Version) (vs : Chain) → goes (max d c) [] v vs ≡ (goes d [] v vs || goes c [] v vs)
unfolding goes is_covered is_clear is_read
goes_max d c v [] = rw (leb_max v.number d c) (either false false (is_deletion v.payload) (leb v.number d) _)
goes_max d c v (w ∷ ws) =
    rw (leb_max w.number d c, leb_max v.number d c)
    (either (leb w.number d) (leb w.number c) (is_deletion v.payload) _ _)

-- two sweeps leave what the larger cutoff leaves
pub trim_trim : (d c lo hi : ℕ) (l : Chain) → Rising lo hi l
    → trim (goes c []) (trim (goes d []) l) ≡ trim (goes (max d c) []) l
unfolding trim
trim_trim d c lo hi [] r = refl
trim_trim d c lo hi (v ∷ vs) r =
    let i = trim_trim d c v.number hi vs r.1 in
    by_bool (goes d [] v vs)
    (λ p. rw (goes_max d c v vs, p) i)
    (λ p.
    let e = rest_stays d hi v vs (not_covered d v vs p) r.1 in
    rw (goes_max d c v vs, p, e, ← rw e at i))

-- ---- what the demand names

above_all : (c lo hi : ℕ) (l : Chain) → c ≤ lo → Rising lo hi l → (visible c l ≡ None) × (newer_than c l ≡ l)
unfolding visible newer_than
above_all c lo hi [] h r = (refl, refl)
above_all c lo hi (v ∷ vs) h r =
    let i = above_all c v.number hi vs (omega (arith, r.0)) r.1 in
    (rw (i.0, lt-leb v.number c (omega (arith, r.0))), rw (lt-ltb c v.number (omega (arith, r.0)), i.1))

held_covered : (c hi : ℕ) (v : Version) (vs : Chain) → is_covered c [] v vs ≡ true → Rising v.number hi vs
    → held c vs ≡ held c (v ∷ vs)
unfolding is_covered held visible newer_than is_clear is_read
held_covered c hi v [] p r = true_false (sym p)
held_covered c hi v (w ∷ ws) p r =
    let q : w.number ≤ c = leb-true _ _ p in
    rw (
      p,
      or_else_full (visible c ws) w (given (leb v.number c) v),
      le-ltb c v.number (omega (arith, r.0)),
    )

held_deleted : (c hi : ℕ) (v : Version) (l : Chain) → v.payload ≡ deletion → v.number ≤ c → Rising c hi l
    → l ≡ held c (v ∷ l)
unfolding held visible newer_than
held_deleted c hi v l e h r =
    let i = above_all c c hi l (le_refl c) r in
    rw (i.0, i.1, le-leb _ _ h, e, le-ltb c v.number h)

held_kept : (c hi : ℕ) (v : Version) (l : Chain) → goes c [] v l ≡ false → Rising c hi l → v ∷ l ≡ held c (v ∷ l)
unfolding held visible newer_than goes is_clear is_read
held_kept c hi v l g r =
    let d = is_deletion v.payload in
    let i = above_all c c hi l (le_refl c) r in
    by_bool (leb v.number c)
    (λ p.
    let e : d ≡ false = and_true d ∙ rw p at (or_right (is_covered c [] v l) _ g) in
    rw (i.0, i.1, p, e, le-ltb c v.number (leb-true _ _ p)))
    (λ p. rw (i.0, i.1, p, lt-ltb c v.number (leb-false _ _ p)))

held_nil : (c : ℕ) → [] ≡ held c []
unfolding held visible newer_than
held_nil c = refl

pub trim_held : (c lo hi : ℕ) (l : Chain) → Rising lo hi l → trim (goes c []) l ≡ held c l
unfolding trim
trim_held c lo hi [] r = held_nil c
trim_held c lo hi (v ∷ vs) r =
    let above : is_covered c [] v vs ≡ false → Rising c (max c hi) vs = λ q. rest_above c hi v vs q r.1 in
    let stays : is_covered c [] v vs ≡ false → trim (goes c []) vs ≡ vs = λ q. rest_stays c hi v vs q r.1 in
    by_bool (goes c [] v vs)
    (λ p. rw p (goes_as c v vs p
    (λ q. trim_held c v.number hi vs r.1 ∙ held_covered c hi v vs q r.1)
    (λ q e h. stays q ∙ held_deleted c _ v vs e h (above q))))
    (λ p. let q = not_covered c v vs p in rw (p, stays q) (held_kept c _ v vs p (above q)))

-- ---- what goes is at or below the cutoff

goes_below : (c hi : ℕ) (v : Version) (vs : Chain) → Rising v.number hi vs → goes c [] v vs ≡ true → v.number ≤ c
unfolding is_covered is_clear is_read
goes_below c hi v [] r g = goes_as c v [] g (λ p. true_false (sym p)) (λ p e l. l)
goes_below c hi v (w ∷ ws) r g =
    goes_as c v (w ∷ ws) g (λ p. omega (arith, r.0, leb-true w.number c p)) (λ p e l. l)

pub trim_below : (c lo hi : ℕ) (l : Chain) → Rising lo hi l → (v : Version) → Memᴰ v l
    → Memᴰ v (trim (goes c []) l) ⊎ (v.number ≤ c)
unfolding trim
trim_below c lo hi [] r v m = absurd (Memᴰ.not-nil m)
trim_below c lo hi (w ∷ ws) r v m =
    let i = trim_below c w.number hi ws r.1 v in
    by_bool (goes c [] w ws)
    (λ p. rw p (⊎_elim (λ e. inr (rw e (goes_below c hi w ws r.1 p))) i (Memᴰ.cases_cons m)))
    (λ p. rw p
    (⊎_elim
    (λ e. inl (Memᴰ.head e))
    (λ n. ⊎_elim (λ k. inl (Memᴰ.tail k)) (λ h. inr h) (i n))
    (Memᴰ.cases_cons m)))
