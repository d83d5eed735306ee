-- A transaction given up, or why it is not.
-- Assumes nothing.
use mathlib.Core.Path.{◌≡◌, ◌∙◌}
use Rattle.std.specs.Prelude.{None, Some}
use Prim.Native.Nat.{ℕ}
use lib.ListN.{set}
use Rattle.model.specs.Bytes.{Bytes}
use Rattle.model.specs.State.{free}
use Rattle.model.specs.Calls.{abort, on, refused, done, closes, check, act, decide, apply}
use Rattle.desk.specs.Layout.{desks_in, put_desks}
use Rattle.desk.specs.Shape.{desk_of}
use Rattle.desk.proofs.Laws.Starts.{open_at, not_open, vacated_at}
use Rattle.bridge.specs.Store.{store_in, Sound}
use Rattle.bridge.specs.Clauses.{DeskCalled}
use Rattle.bridge.proofs.Laws.Memories.{by_desk, acts, refuses}
use Rattle.bridge.proofs.Laws.Desks.{apart}

module _ (h d : Bytes) (s : Sound h d) (t : ℕ) where
  pub abort_refused : desk_of t (desks_in d) ≡ None → DeskCalled h d d (on t abort) (refused 5)
  unfolding store_in decide act check
  abort_refused e = by_desk (refuses h d s (rw (not_open t (desks_in d) e)))

  pub abort_done : {d' : Bytes} (i : ℕ) → desk_of t (desks_in d) ≡ Some i → d' ≡ put_desks d (set (desks_in d) i free) → DeskCalled h d d' (on t abort) done
  unfolding store_in decide act check apply
  abort_done i e p =
      by_desk (acts h d s {e = closes t} (rw (open_at t (desks_in d) i e).writes) s.hall.same (p ∙ rw (vacated_at t (desks_in d) i (apart h d s) e)))
