-- What begins a run, on two memories: make and load.
use Rattle.std.specs.Prelude.{ℕ, ◌≡◌, Bool, ◌&&◌, cond, length, leb, Option, None, Some}
use Rattle.model.specs.Bytes.{Bytes}
use Rattle.model.specs.State.{Store}
use Rattle.model.specs.Calls.{Answer, refused}
use Rattle.model.specs.Runs.{Creation, make, load, Created, created}
use Rattle.hall.specs.Layout as hall
use Rattle.desk.specs.Layout as desk

-- hall memory h and desk memory d are long enough for these sizes
unfoldable pub are_long : (h d : Bytes) (key_rooms version_rooms desks : ℕ) → Bool
are_long h d ks vs ds = leb (hall.needed ks vs) (length h) && leb (desk.needed ds) (length d)

abbrev pub are_long_for : (h d : Bytes) → Creation → Bool
are_long_for h d (make ks vs ds) = are_long h d ks vs ds
are_long_for h d (load x ks vs ds) = are_long h d ks vs ds

-- the answer, and the store if it is accepted
unfoldable pub created_on : (h d : Bytes) → Creation → Created
created_on h d o = cond (are_long_for h d o) (created o) (refused 2, None)

-- the memories with the store, if there is one, in them
abbrev pub with_hall : Bytes → Option Store → Bytes
with_hall h None = h
with_hall h (Some s) = hall.put_hall h s.hall

abbrev pub with_desks : Bytes → Option Store → Bytes
with_desks d None = d
with_desks d (Some s) = desk.put_desks d s.desks

-- ---- contracts

-- the creation o, which turned the memories h and d into h' and d' and answered a, did what the model's creation does
pub record CreatedAs (h d h' d' : Bytes) (o : Creation) (a : Answer) : Type 0 where
  pub answer : a ≡ (created_on h d o).0
  pub hall : h' ≡ with_hall h (created_on h d o).1
  pub desk : d' ≡ with_desks d (created_on h d o).1
