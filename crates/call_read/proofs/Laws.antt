-- A read: what each test on the way says of the outcome, and where its value stands.
-- Assumes nothing.
use mathlib.Core.Path.{◌≡◌, sym, ap, ◌∙◌}
use mathlib.Core.Bool.{true, false}
use Rattle.std.specs.Prelude.{Option}
use Prim.Native.Nat.{ℕ, ◌<◌}
use lib.ListN.{length}
use Rattle.model.specs.Bytes.{Bytes}
use Rattle.model.specs.State.{Writes, content_of, find, written_keys, writes_of}
use Rattle.model.specs.Sound.{key_fits}
use Rattle.model.specs.Calls.{read, on, check, read_outcome, act, decide}
use Rattle.memory.specs.declared.spans.Span.{Span}
use Rattle.answers.specs.declared.Refusal.TheVariants.{BadKey, NotOpen}
use Rattle.hall.specs.Layout.{hall_in}
use Rattle.cells.specs.Rows.{place_of}
use Rattle.cells.specs.declared.rows.Place.{Place}
use Rattle.cells.specs.declared.rows.Place.TheVariants.{At, Before}
use Rattle.desk.specs.Layout as desk
use Rattle.desk.specs.Shape.{desk_in, own_writes, desk_of}
use Rattle.desk_writes.specs.Writes.{write_at}
use Rattle.memory.specs.Which.{placed}
use Rattle.memory.specs.declared.Which.{Which}
use Rattle.memory.specs.declared.Which.TheVariants as desk_is
use Rattle.desk.proofs.Laws.Starts.{open_at, not_open}
use Rattle.desk_writes.proofs.Laws.Writes.{told}
use Rattle.bridge.specs.Store as memories
use Rattle.bridge.specs.Store.{store_in, outcome_on}
use Rattle.hall_values.specs.Places.{Reading}
use Rattle.hall_values.specs.Stands.{Stands, own_place, held_place}
use Rattle.hall_values.proofs.Laws.{refuses, own_stands, held_stands}
use Rattle.hall_values.specs.Sees.{sees}
use Rattle.hall_values.specs.declared.Placed.{Placed}
use Rattle.hall_values.specs.declared.Placed.TheVariants as placed_is
use Rattle.bridge.proofs.Laws.Memories.{outcome_sound}

-- ---- own write i of key k among the writes ws, and none

pub own_row : (k : Bytes) (ws : Writes) (i : ℕ) {q : Place} → q ≡ place_of k 0 (written_keys ws) → q ≡ At i
    → i < length ws
own_row k ws i e f = (told k ws (At i) e f).below

module _ (h d : Bytes) (t : ℕ) (k : Bytes) (ws : Writes) {q : Place} (e : q ≡ place_of k 0 (written_keys ws)) (i : ℕ) {r : Placed} (v : Option Span) where
  pub own_read : q ≡ At i → r ≡ own_place v → Stands d v (content_of (write_at ws i).payload) → Reading h d r (read_outcome (find k ws) (sees h t k))
  own_read f g a = rw ((told k ws (At i) e f).payload, g) (own_stands h d v (write_at ws i).payload (sees h t k) a)

  pub held_read : q ≡ Before i → r ≡ held_place v → Stands h v (sees h t k) → Reading h d r (read_outcome (find k ws) (sees h t k))
  held_read f g a = rw ((told k ws (Before i) e f).nothing, g) (held_stands h d v (sees h t k) a)

-- ---- by the tests

module _ (h d : Bytes) (s : memories.Sound h d) (t : ℕ) (k : Bytes) where
  reads_as_lem : outcome_on h d (on t (read k)) ≡ act (hall_in h) t (read k) (writes_of t (desk.desks_in d))
  unfolding store_in decide
  reads_as_lem = outcome_sound h d s (on t (read k))

  pub bad_key : key_fits k ≡ false → Reading h d (placed_is.Refused BadKey) (outcome_on h d (on t (read k)))
  unfolding act check
  bad_key e = refuses h d BadKey (reads_as_lem ∙ rw e)

  module _ (e : key_fits k ≡ true) {q : Which} (p : placed q ≡ desk_of t (desk.desks_in d)) where
    pub not_open_there : q ≡ desk_is.Nothing → Reading h d (placed_is.Refused NotOpen) (outcome_on h d (on t (read k)))
    unfolding act check
    not_open_there f = refuses h d NotOpen (reads_as_lem ∙ rw (e, not_open t (desk.desks_in d) (sym p ∙ ap placed f)))

    pub read_there : (i : ℕ) → q ≡ desk_is.At i → {r : Placed}
        → Reading h d r (read_outcome (find k (own_writes (desk_in d i))) (sees h t k))
        → Reading h d r (outcome_on h d (on t (read k)))
    unfolding act check
    read_there i f a = rw (reads_as_lem, e, (open_at t (desk.desks_in d) i (sym p ∙ ap placed f)).writes) a
