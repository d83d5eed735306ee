-- A transaction opened, or why it is not.
-- Assumes nothing.
use mathlib.Core.Path.{◌≡◌, sym, ◌∙◌}
use Rattle.std.specs.Prelude.{None, Some}
use Prim.Native.Nat.{ℕ, ◌+◌, ◌≤◌, ◌<◌}
use native.Mathlib.Numerals.{add-one}
use borrow.Author.Tests.{lt-leb, le-leb}
use Rattle.model.specs.Sizes.{last_number}
use Rattle.model.specs.Bytes.{Bytes}
use Rattle.model.specs.State.{with_entries, free_desk, seat}
use Rattle.model.specs.Calls.{begin, refused, began, opens, check, is_spent, decide, apply}
use Rattle.hall.specs.Layout.{counter_in, hall_in, put_hall}
use Rattle.hall.proofs.Laws.Sound.{hall_counter}
use Rattle.desk.specs.Layout.{desks_in, put_desks}
use Rattle.bridge.specs.Store.{store_in, Sound}
use Rattle.bridge.specs.Clauses.{Called}
use Rattle.bridge.proofs.Laws.Memories.{acts, refuses}

module _ (h d : Bytes) (s : Sound h d) where
  pub begin_full : free_desk (desks_in d) ≡ None → Called h d h d begin (refused 6)
  unfolding store_in decide check
  begin_full e = refuses h d s (rw e)

  -- n is the counter that was read, i the desk that was found
  module _ {n : ℕ} (r : n ≡ counter_in h) (i : ℕ) (e : free_desk (desks_in d) ≡ Some i) where
    at_counter : (hall_in h).counter ≡ n
    at_counter = hall_counter h ∙ sym r

    pub begin_spent : last_number ≤ n → Called h d h d begin (refused 8)
    unfolding store_in decide check is_spent
    begin_spent f = refuses h d s (rw (e, at_counter, le-leb last_number n f))

    pub begin_done : {h' d' : Bytes} → n < last_number
        → h' ≡ put_hall h (with_entries (hall_in h) (n + 1) (hall_in h).entries)
        → d' ≡ put_desks d (seat (n + 1) (desks_in d)) → Called h d h' d' begin (began (n + 1) i)
    unfolding store_in decide check is_spent apply
    begin_done f p q = acts h d s {e = opens (n + 1)} (rw (e, at_counter, lt-leb last_number n f, add-one n)) p q
