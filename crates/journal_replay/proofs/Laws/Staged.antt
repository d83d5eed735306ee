-- The first desk of a vacant memory: taken, given its writes, and closed again.
-- Assumes nothing.
use mathlib.Core.Path.{◌≡◌, refl, sym, ap, subst, ◌∙◌}
use mathlib.Core.List.{List, [], ◌∷◌}
use Rattle.std.specs.Prelude.{Some}
use Prim.Native.Nat.{◌≤◌, ◌<◌}
use native.Mathlib.Omega.{arith}
use lib.ListN.{length, set, get_or, length-set}
use lib.Seq.{set-set, get_or-set_same, set-get_or}
use Rattle.model.specs.Sizes.{max_writes}
use Rattle.model.specs.Bytes.{Bytes}
use Rattle.model.specs.State.{Writes, Desk, free, taken, free_desk, open_desks, seat, rewriting}
use Rattle.desk.specs.Layout.{desks_in, put_desks}
use Rattle.desk.specs.Shape.{RoomForWrites, RoomFor, Shaped, desk_in, own_writes, IsTaken, reseat}
use Rattle.desk.proofs.Laws.Layout.{desks_get, put_shaped, put_then}
use Rattle.desk.proofs.Laws.Shaped.{room_changed}
use Rattle.desk.proofs.Laws.Starts.{free_at}
use Rattle.desk_writes.specs.Writes.{Open, rewritten}
use Rattle.journal_stage.specs.Staging.{writes_of, Body, Staging}
use Rattle.journal_replay.specs.Replays.{Vacant, staged}

first_free : (ds : List Desk) → 1 ≤ length ds → open_desks ds ≡ 0 → free_desk ds ≡ Some 0
unfolding free_desk open_desks
first_free [] h e = absurd (omega arith)
first_free (free ∷ ds) h e = refl
first_free (taken x ∷ ds) h e = absurd (omega (arith, e))

pub free_here : {m : Bytes} → Vacant m → free_desk (desks_in m) ≡ Some 0
free_here v = first_free _ v.some v.none

-- n is m with these writes at its first desk
pub record Staged (m : Bytes) (ws : Writes) (n : Bytes) : Type 0 where
  pub vacant : Vacant m
  pub few : length ws ≤ max_writes
  pub room : RoomForWrites ws
  pub same : n ≡ put_desks m (staged ws (desks_in m))

module _ {m : Bytes} {ws : Writes} {n : Bytes} (t : Staged m ws n) where
  rooms : RoomFor (staged ws (desks_in m))
  rooms = room_changed (desks_in m) 0 _ (omega arith, (t.few, t.room)) t.vacant.shaped.room

  desks_are : desks_in n ≡ staged ws (desks_in m)
  desks_are = rw t.same (desks_get m (staged ws (desks_in m)) rooms)

  desk_is : desk_in n 0 ≡ taken (record { start = 0; writes = ws })
  desk_is = ap (λ (ds : List Desk). get_or ds 0 free) desks_are ∙ get_or-set_same (desks_in m) 0 _ free t.vacant.some

  pub staged_writes : own_writes (desk_in n 0) ≡ ws
  staged_writes = ap (λ (d : Desk). own_writes d) desk_is

  pub staged_shaped : Shaped n
  staged_shaped = rw t.same (put_shaped m (staged ws (desks_in m)) rooms (rw length-set t.vacant.shaped.long))

  pub staged_below : 0 < length (desks_in n)
  staged_below = rw (desks_are, length-set) t.vacant.some

  pub closed_again : {k : Bytes} → k ≡ put_desks n (set (desks_in n) 0 free) → k ≡ m
  closed_again g =
      let ds : List Desk = desks_in m in
      let vacant : set ds 0 free ≡ ds = rw (free_at ds 0 (free_here t.vacant)).vacant at (set-get_or ds 0 free) in
      put_then m (staged ws ds) rooms (λ es. set es 0 free) (length-set (staged ws ds) 0 free) t.same g
      ∙ ap (put_desks m) (set-set ds 0 _ free ∙ vacant) ∙ sym t.vacant.shaped.same

-- taken, and then given the writes of a body
module _ {m : Bytes} (v : Vacant m) {n : Bytes} (e : n ≡ put_desks m (seat 0 (desks_in m))) (x : Bytes) (b : Body x) where
  first : Staged m [] n
  first =
      let seated = (free_at (desks_in m) 0 (free_here v)).seats 0 in
      record { vacant = v; few = omega arith; room = tt; same = e ∙ ap (put_desks m) seated }

  pub stages : Staging x n 0
  stages =
      let is = subst (λ (d : Desk). IsTaken d) (sym (desk_is first)) tt in
      let o : Open n 0 = record { shaped = staged_shaped first; below = staged_below first; is_open = is } in
      record { body = b; is_open = o; none = staged_writes first }

  pub staged_all : {k : Bytes} → k ≡ put_desks n (rewritten 0 (λ ws. writes_of x) (desks_in n))
      → k ≡ put_desks m (staged (writes_of x) (desks_in m))
  staged_all g =
      let ds : List Desk = desks_in m in
      let t : Desk = taken (record { start = 0; writes = [] }) in
      put_then m (staged [] ds) (rooms first) (rewritten 0 (λ ws. writes_of x))
      (length-set (staged [] ds) 0 _) first.same g
      ∙ ap (put_desks m) (set-set ds 0 t _ ∙ ap (λ (d : Desk). set ds 0 (reseat (rewriting (λ ws. writes_of x)) d))
      (get_or-set_same ds 0 t free v.some))
