-- The sizes of a store: those that were asked for, kept by every call; and which desk a begin gives.
use Prim.Native.Nat.{ℕ, suc, ◌≤◌, ◌<◌}
use native.Mathlib.Omega.{arith}
use mathlib.Core.Path.{◌≡◌, refl, sym, ap, ◌∙◌, subst}
use mathlib.Core.Bool.{true, false}
use mathlib.Core.List.{List, [], ◌∷◌}
use Rattle.std.specs.Prelude.{None, Some}
use borrow.Author.Tests.{eq-eqb, ne_eqb}
use lib.Dec.{eqb}
use lib.ListN.{length}
use Rattle.model.specs.Bytes.{Bytes}
use Rattle.model.specs.State.{Hall, Desk, free, taken, Store, free_desk, open_desks, vacant}
use Rattle.model.specs.Sound.{sizes_fit}
use Rattle.model.specs.Load.{Parsed, got, bad, Parser, bind, read_entries, read_end, read_hall}
use Rattle.model.specs.Journal.{Commit, with_commit, with_commits}
use Rattle.model.specs.Calls.{Call, begin, Answer, refused, began, done, refusal, Effect, stays, opens, writes, closes, publishes, trims, replays, check, is_spent, decide, apply, answer, next}
use Rattle.model.specs.Runs.{Creation, make, load, sizes_of, Created, loaded, created, run}
use Rattle.model.specs.Demands.{DesksGiven}
use Rattle.model.proofs.Cases.{by_bool, by_option, zero_one, none_some}

-- ---- a hall that is read

module _ (ks vs ds : ℕ) where
  abbrev pub Sized : Parsed Hall → Type 0
  Sized (got h q r) = (h.key_rooms ≡ ks) × (h.version_rooms ≡ vs) × (h.desk_count ≡ ds)
  Sized (bad n at) = Unit {0}

  sized_bind : {A : Type 0} (m : Parsed A) (f : A → Parser Hall) → ((a : A) (p : ℕ) (y : Bytes) → Sized (f a p y)) → Sized (bind m f)
  unfolding bind
  sized_bind (got a p y) f k = k a p y
  sized_bind (bad n p) f k = tt

  pub sized_hall : (x : Bytes) → Sized (read_hall ks vs ds 0 x)
  unfolding read_hall
  sized_hall x =
      sized_bind _ _ (λ o p y. sized_bind _ _ (λ next p y. sized_bind _ _ (λ n p y. sized_bind (read_entries next n vs [] p y) _ (λ es p y. sized_bind (read_end p y) _ (λ e p y. (refl, refl, refl))))))

-- ---- a store that is made or loaded

store_is : {x s : Store} → ◌≡◌ {A = Created} (done, Some x) (done, Some s) → s ≡ x
store_is {x} {s} e = let q : Some x ≡ Some s = ap (λ (o : Created). o.1) e in cc

loaded_sizes : (ks vs ds : ℕ) (p : Parsed Hall) → Sized ks vs ds p → (s : Store) → ◌≡◌ {A = Created} (loaded p) (done, Some s)
    → (s.hall.key_rooms ≡ ks) × (s.hall.version_rooms ≡ vs) × (s.hall.desk_count ≡ ds)
unfolding loaded vacant
loaded_sizes ks vs ds (got g q r) z s e = rw (store_is e) z
loaded_sizes ks vs ds (bad n at) z s e = none_some (ap (λ (o : Created). o.1) e)

pub created_sizes : (o : Creation) (s : Store) → created o ≡ (done, Some s)
    → (s.hall.key_rooms ≡ (sizes_of o).0) × (s.hall.version_rooms ≡ (sizes_of o).1) × (s.hall.desk_count ≡ (sizes_of o).2)
unfolding created vacant
created_sizes (make ks vs ds) s e =
    by_bool (sizes_fit ks vs ds) (λ p. rw (store_is (rw p at e)) (refl, refl, refl)) (λ p. none_some (ap (λ (o : Created). o.1) (rw p at e)))
created_sizes (load x ks vs ds) s e =
    by_bool (sizes_fit ks vs ds)
    (λ p. loaded_sizes ks vs ds (read_hall ks vs ds 0 x) (sized_hall ks vs ds x) s (rw p at e))
    (λ p. none_some (ap (λ (o : Created). o.1) (rw p at e)))

-- ---- kept by every call

pub commits_sizes : (h : Hall) (cs : List Commit)
    → ((with_commits h cs).key_rooms ≡ h.key_rooms) × ((with_commits h cs).version_rooms ≡ h.version_rooms) × ((with_commits h cs).desk_count ≡ h.desk_count)
unfolding with_commits
commits_sizes h [] = (refl, refl, refl)
commits_sizes h (c ∷ cs) = commits_sizes (with_commit h c) cs

pub sizes_kept : (s : Store) (e : Effect)
    → ((apply s e).hall.key_rooms ≡ s.hall.key_rooms) × ((apply s e).hall.version_rooms ≡ s.hall.version_rooms) × ((apply s e).hall.desk_count ≡ s.hall.desk_count)
unfolding apply
sizes_kept s stays = (refl, refl, refl)
sizes_kept s (opens t) = (refl, refl, refl)
sizes_kept s (writes t k p) = (refl, refl, refl)
sizes_kept s (closes t) = (refl, refl, refl)
sizes_kept s (publishes t n ws) = (refl, refl, refl)
sizes_kept s (trims c g) = (refl, refl, refl)
sizes_kept s (replays cs) = commits_sizes s.hall cs

pub desks_run : (s : Store) (cs : List Call) → (run s cs).hall.desk_count ≡ s.hall.desk_count
unfolding run
desks_run s [] = refl
desks_run s (c ∷ cs) = desks_run (next s c) cs ∙ (sizes_kept s (decide s c).effect).2

-- ---- the desk of a begin

open_all : (ds : List Desk) → free_desk ds ≡ None → open_desks ds ≡ length ds
unfolding free_desk open_desks
open_all [] e = refl
open_all (free ∷ ds) e = none_some (sym e)
open_all (taken x ∷ ds) e = ap suc (open_all ds (by_option (free_desk ds) (λ p. p) (λ d p. none_some (sym (rw p at e)))))

open_most : (ds : List Desk) → open_desks ds ≤ length ds
unfolding open_desks
open_most [] = omega arith
open_most (free ∷ ds) = omega (arith, open_most ds)
open_most (taken x ∷ ds) = omega (arith, open_most ds)

free_below : (ds : List Desk) (d : ℕ) → free_desk ds ≡ Some d → (d < length ds) × (open_desks ds < length ds)
unfolding free_desk open_desks
free_below [] d e = none_some e
free_below (free ∷ ds) d e = (let z : 0 ≡ d = cc e in omega arith, omega (arith, open_most ds))
free_below (taken x ∷ ds) d e =
    by_option (free_desk ds)
    (λ p. none_some (rw p at e))
    (λ k p.
    let r = free_below ds k p in
    let z : suc k ≡ d = cc (rw p at e) in
    (omega (arith, r.0), omega (arith, r.1)))

module _ (s : Store) where
  abbrev n : ℕ
  n = s.hall.desk_count

  abbrev Given : Answer → Type 0
  Given a = DesksGiven n (open_desks s.desks) a

  all_taken : free_desk s.desks ≡ None → answer s begin ≡ refused 6
  unfolding decide check
  all_taken p = rw (p, answer)

  spent : {k : ℕ} → free_desk s.desks ≡ Some k → is_spent s.hall ≡ true → answer s begin ≡ refused 8
  unfolding decide check
  spent p q = rw (p, q, answer)

  given : {k : ℕ} → free_desk s.desks ≡ Some k → is_spent s.hall ≡ false → answer s begin ≡ began (suc s.hall.counter) k
  unfolding decide check
  given p q = rw (p, q, answer)

  pub desks_given : length s.desks ≡ n → Given (answer s begin)
  unfolding refusal
  desks_given l =
      by_option (free_desk s.desks)
      (λ p. subst Given (sym (all_taken p))
      (record { full = sym (eq-eqb (open_desks s.desks) n (open_all s.desks p ∙ l)); below = λ t d e. zero_one (cc e) }))
      (λ k p.
      let r = free_below s.desks k p in
      let f : false ≡ eqb (open_desks s.desks) n = sym (ne_eqb (open_desks s.desks) n (λ q. omega (arith, r.1))) in
      by_bool (is_spent s.hall)
      (λ q. subst Given (sym (spent p q)) (record { full = f; below = λ t d e. zero_one (cc e) }))
      (λ q. subst Given (sym (given p q)) (record { full = f; below = λ t d e. let z : k ≡ d = cc e in omega (arith, r.0) })))
