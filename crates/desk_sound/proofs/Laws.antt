-- The tests of the desks one by one and of the versions one by one, and what all of them say.
-- Assumes nothing.
use mathlib.Core.Path.{◌≡◌, refl, sym, ap, ◌∙◌}
use mathlib.Core.Bool.{Bool, true, false, not, ◌&&◌, ◌||◌, and-true, and-false, and_assoc, or_assoc}
use mathlib.Core.List.{List, [], ◌∷◌, ◌++◌}
use Prim.Native.Nat.{ℕ, ◌+◌, ◌≤◌, ◌<◌}
use native.Mathlib.Numerals.{add-one}
use native.Mathlib.Omega.{arith}
use lib.Dec.{leb, eqb}
use borrow.Author.Tests.{le-leb, leb-true, eq-eqb}
use lib.ListN.{length, drop}
use lib.Seq.{drop-cons}
use Rattle.model.specs.Sizes.{max_desks, max_writes}
use Rattle.model.specs.Bytes.{Bytes}
use Rattle.model.specs.State.{Version, Chain, Entry, Hall, Transaction, Desk, free, taken}
use Rattle.model.specs.State.{is_some, writes_of, open_desks, cutoff}
use Rattle.model.specs.Sound.{every, in_chain, is_number, sound_open, sound_desks}
use Rattle.model.proofs.Cases.{by_bool, and_intro, and_left, and_right}
use Rattle.model_laws.proofs.Desks.{cutoff_seated}
use Rattle.memory.specs.Rows.{Each}
use Rattle.memory.proofs.Laws.Tests.{same_test, fails_too}
use Rattle.hall.specs.Layout.{older, latest, newests_of, olders_of, versions_of, versions_in, desk_count_in, hall_in, Sound}
use Rattle.hall.proofs.Laws.Halls.{older_latest, sound_sizes}
use Rattle.hall.proofs.Laws.Sound.{versions_are, hall_desk_count}
use Rattle.desk.specs.Layout.{desks_in, is_sound}
use Rattle.desk.specs.Shape.{RoomForDesk, Shaped, desk_in}
use Rattle.desk.proofs.Laws.Desks.{Walking, walk_below}
use Rattle.desk_shape.specs.Tests.{shape_fits}
use Rattle.desk.proofs.Laws.Sound.{all_there, all_open, sound_shaped, tested, tests}
use Rattle.desk_shape.proofs.Laws.{shape_passes}
use Rattle.desk_starts.specs.Starts.{none_starts, last_start, Between}
use Rattle.desk_starts.proofs.Laws.{last_seated}
use Rattle.desk_sound.specs.Tests.{desk_test, desks_test}

-- ---- numbers of versions: those of all chains are those of the version rows, one after the other

in_append : (t : ℕ) (xs ys : Chain) → in_chain t (xs ++ ys) ≡ (in_chain t xs || in_chain t ys)
unfolding in_chain
in_append t [] ys = refl
in_append t (v ∷ xs) ys = rw (in_append t xs ys) (sym (or_assoc (eqb v.number t) (in_chain t xs) (in_chain t ys)))

shuffle : (a b c d : Bool) → (a || b) || (c || d) ≡ (b || c) || (a || d)
shuffle true true c d = refl
shuffle true false true d = refl
shuffle true false false d = refl
shuffle false true c d = refl
shuffle false false true d = refl
shuffle false false false d = refl

number_in : (t : ℕ) (es : List Entry) → is_number t es ≡ in_chain t (versions_of es)
unfolding is_number newests_of olders_of in_chain
number_in t [] = refl
number_in t (e ∷ es) =
    let old : Chain = older e.chain in
    let new : Chain = latest e.chain in
    let c : in_chain t e.chain ≡ in_chain t old || in_chain t new =
    ap (in_chain t) (sym (older_latest e.chain)) ∙ in_append t old new in
    let r : is_number t es ≡ in_chain t (newests_of es) || in_chain t (olders_of es) =
    number_in t es ∙ in_append t (newests_of es) (olders_of es) in
    rw (c, r, in_append t (new ++ newests_of es), in_append t new, in_append t old)
    (shuffle (in_chain t old) (in_chain t new) _ _)

pub numbers_in_lem : (m : Bytes) → Sound m → (t : ℕ) → is_number t (hall_in m).entries ≡ in_chain t (versions_in m)
numbers_in_lem m s t = number_in t (hall_in m).entries ∙ ap (in_chain t) (sym (versions_are m s))

-- ---- the range of the open starts

cutoff_positive : (h : Hall) (m : ℕ) (ds : List Desk) → desks_test h ds ≡ true → 1 ≤ m → 1 ≤ cutoff m ds
unfolding desks_test desk_test every cutoff
cutoff_positive h m [] e l = l
cutoff_positive h m (free ∷ ds) e l = cutoff_positive h m ds e l
cutoff_positive h m (taken x ∷ ds) e l =
    let a = and_left (desk_test h (taken x) ds) (desks_test h ds) e in
    let b = and_right (desk_test h (taken x) ds) (desks_test h ds) e in
    omega (arith, leb-true 1 x.start (and_left (leb 1 x.start) _ a), cutoff_positive h m ds b l)

pub between : {lo hi : ℕ} (h : Hall) (m : ℕ) (ds : List Desk) → desks_test h ds ≡ true → 1 ≤ m
    → lo ≡ cutoff m ds → hi ≡ last_start ds → Between lo hi ds
between h m ds e l p q =
    let o = cutoff_positive h m ds e l in
    rw (p, q) (record { positive = o; starts = λ t s. (cutoff_seated m t ds s, last_seated t ds s) })

-- ---- open starts against numbers: desk by desk is version by version

none_open : (vs : List Version) → none_starts [] vs ≡ true
unfolding none_starts writes_of
none_open [] = refl
none_open (v ∷ vs) = none_open vs

none_free : (ds : List Desk) (vs : List Version) → none_starts (free ∷ ds) vs ≡ none_starts ds vs
unfolding none_starts writes_of
none_free ds [] = refl
none_free ds (v ∷ vs) = rw (none_free ds vs)

swap : (a b c : Bool) → (a && (b && c)) ≡ (b && (a && c))
swap true b c = refl
swap false b c = sym (and-false b)

none_taken : (x : Transaction) (ds : List Desk) (vs : List Version)
    → none_starts (taken x ∷ ds) vs ≡ (not (in_chain x.start vs) && none_starts ds vs)
unfolding none_starts writes_of in_chain
none_taken x ds [] = refl
none_taken x ds (v ∷ vs) =
    by_bool (eqb v.number x.start)
    (λ p. rw p)
    (λ p. rw (p, none_taken x ds vs)
    (swap (not (is_some (writes_of v.number ds))) (not (in_chain x.start vs)) (none_starts ds vs)))

-- ---- desks one by one, then the numbers

-- desk d is tested, with the answer r
pub desk_next : {m : Bytes} {n b d : ℕ} {r : Bool} (h : Hall) → Walking m n b d → d < n
    → r ≡ desk_test h (desk_in m d) (drop (d + 1) (desks_in m))
    → desks_test h (drop d (desks_in m)) ≡ (r && desks_test h (drop (d + 1) (desks_in m)))
unfolding desks_test
desk_next {m} {d = d} h g l e = rw (e, add-one d, drop-cons (desks_in m) d free (walk_below g l))

regroup : (a b c d e s n : Bool)
    → every ((a && b) ∷ not c ∷ d ∷ true ∷ e ∷ (s && n) ∷ []) ≡ ((every (a ∷ b ∷ d ∷ e ∷ []) && s) && (not c && n))
unfolding every
regroup a b true d e s n = simp and-false
regroup a b false d e s n = simp (and_assoc, and-true)

module _ (h : Hall) (vs : List Version) (f : (t : ℕ) → is_number t h.entries ≡ in_chain t vs) where
  split : (ds : List Desk) → Each RoomForDesk ds → sound_open h ds ≡ (desks_test h ds && none_starts ds vs)
  unfolding sound_open desks_test desk_test
  split [] r = sym (none_open vs)
  split (free ∷ ds) r = rw (none_free ds vs) (split ds r.1)
  split (taken x ∷ ds) r =
      rw (le-leb (length x.writes) max_writes r.0.1.0, f x.start, split ds r.1, none_taken x ds vs)
      (regroup _ _ (in_chain x.start vs) _ _ (desks_test h ds) (none_starts ds vs))

pub in_turn : (m k : Bytes) → Sound m → Shaped k
    → sound_open (hall_in m) (desks_in k) ≡ (desks_test (hall_in m) (desks_in k) && none_starts (desks_in k) (versions_in m))
in_turn m k s r = split (hall_in m) (versions_in m) (numbers_in_lem m s) (desks_in k) r.room.each

pub all_free : (h : Hall) (ds : List Desk) → open_desks ds ≡ 0 → sound_open h ds ≡ true
unfolding sound_open open_desks
all_free h [] e = refl
all_free h (free ∷ ds) e = all_free h ds e
all_free h (taken x ∷ ds) e = absurd (omega arith)

-- ---- the whole memory, beside sound hall memory

module _ (k : Bytes) (s : Sound k) (m : Bytes) where
  abbrev h : Hall
  h = hall_in k

  few : h.desk_count ≤ max_desks
  few = (sound_sizes h s.hall).desks.1

  pub decides : {n c : ℕ} → Shaped m → n ≡ length (desks_in m) → c ≡ desk_count_in k → n ≡ c → sound_open h (desks_in m) ≡ is_sound h m
  unfolding sound_desks
  decides r e d g =
      let all : length (desks_in m) ≡ h.desk_count = sym e ∙ g ∙ d ∙ sym (hall_desk_count k) in
      same_test _ _
      (λ o. tests h m (record { long = r.long; few = r.room.count; desks = and_intro (eq-eqb _ _ all) o; same = r.same }))
      (λ q. all_open h (desks_in m) (tested h m few q).desks)

  pub not_shaped : shape_fits m ≡ false → false ≡ is_sound h m
  not_shaped e = fails_too (λ q. shape_passes m (sound_shaped h m (tested h m few q))) e

  pub not_all : {n c : ℕ} → n ≡ length (desks_in m) → c ≡ desk_count_in k → (n ≡ c → ⊥) → false ≡ is_sound h m
  not_all e d g =
      by_bool _
      (λ q. absurd (g (e ∙ all_there h (desks_in m) (tested h m few q).desks ∙ hall_desk_count k ∙ sym d)))
      (λ q. sym q)
