-- Making a store: what each test on the way to an answer says.
use mathlib.Core.Path.{◌≡◌, refl}
use mathlib.Core.Bool.{Bool, true, false, ◌&&◌, cond}
use Rattle.std.specs.Prelude.{None, Some}
use Prim.Native.Nat.{ℕ, ◌≤◌, ◌<◌}
use borrow.Author.Tests.{leb-true, le-leb, lt-leb}
use lib.Dec.{leb}
use lib.ListN.{length, replicate}
use Rattle.model.specs.Sizes.{max_desks}
use Rattle.model.specs.Bytes.{Bytes}
use Rattle.model.specs.State.{free, new_hall, vacant}
use Rattle.model.specs.Sound.{sizes_fit}
use Rattle.model.specs.Calls.{refused, done}
use Rattle.model.specs.Runs.{Creation, make, Created, created}
use Rattle.model.proofs.Cases.{by_bool, true_false, and_left, and_right}
use Rattle.hall.specs.Layout.{needed, put_hall}
use Rattle.hall.proofs.Laws.Halls.{fit_sizes}
use Rattle.desk.specs.Layout as desk
use Rattle.bridge.specs.Creations.{are_long, created_on, with_hall, with_desks, CreatedAs}

-- a creation's outcome, and the memories with it in them
pub created_as : {h d h' d' : Bytes} {o : Creation} (p : Created) → created_on h d o ≡ p → h' ≡ with_hall h p.1 → d' ≡ with_desks d p.1 → CreatedAs h d h' d' o p.0
created_as p e a b = record { answer = rw e; hall = rw e a; desk = rw e b }

-- no creation where a test fails
pub none_opens : (a b : Bool) (x : Created) {y : Created} → (a && b) ≡ false → cond b (cond a x y) y ≡ y
none_opens a true x e = by_bool a (λ p. true_false (rw p at e)) (λ p. rw p)
none_opens a false x e = refl

-- ---- the tests

module _ (h d : Bytes) (ks vs ds : ℕ) where
  abbrev fit : Bool
  fit = sizes_fit ks vs ds

  abbrev long : Bool
  long = are_long h d ks vs ds

  abbrev pub has_room : Bool
  has_room = fit && long

  pub short_hall : length h < needed ks vs → false ≡ has_room
  unfolding are_long
  short_hall l = rw (lt-leb (needed ks vs) (length h) l) (by_bool fit (λ p. rw p) (λ p. rw p))

  pub long_hall : fit ≡ true → needed ks vs ≤ length h → leb (desk.needed ds) (length d) ≡ has_room
  unfolding are_long
  long_hall e l = rw (e, le-leb (needed ks vs) (length h) l)

  pub fits : has_room ≡ true → fit ≡ true
  fits e = and_left fit long e

  pub is_long : has_room ≡ true → long ≡ true
  is_long e = and_right fit long e

  pub hall_room_lem : has_room ≡ true → (fit ≡ true) × (needed ks vs ≤ length h)
  unfolding are_long
  hall_room_lem e =
      (fits e, leb-true (needed ks vs) (length h) (and_left (leb (needed ks vs) (length h)) (leb (desk.needed ds) (length d)) (is_long e)))

  pub desk_room : has_room ≡ true → (ds ≤ max_desks) × (desk.needed ds ≤ length d)
  unfolding are_long
  desk_room e =
      ((fit_sizes ks vs ds (fits e)).desks.1, leb-true (desk.needed ds) (length d) (and_right (leb (needed ks vs) (length h)) (leb (desk.needed ds) (length d)) (is_long e)))

  -- ---- the answers

  pub make_refused : has_room ≡ false → CreatedAs h d h d (make ks vs ds) (refused 2)
  unfolding created_on created
  make_refused e = created_as (refused 2, None) (none_opens fit long _ e) refl refl

  pub make_done : {h' d' : Bytes} → has_room ≡ true → h' ≡ put_hall h (new_hall ks vs ds) → d' ≡ desk.put_desks d (replicate ds free) → CreatedAs h d h' d' (make ks vs ds) done
  unfolding created_on created vacant
  make_done e p q = created_as (done, Some (vacant (new_hall ks vs ds))) (rw (is_long e, fits e)) p q
