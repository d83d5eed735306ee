-- What stands past the needed length stays, whatever is called.
use Prim.Native.Nat.{ℕ}
use mathlib.Core.Path.{◌≡◌, refl, sym, ap, ◌∙◌, subst}
use mathlib.Core.Bool.{true, false}
use mathlib.Core.List.{List}
use lib.ListN.{length, drop}
use lib.Seq.{drop_at}
use Rattle.model.specs.Bytes.{Bytes}
use Rattle.model.specs.State.{Hall, Desk}
use Rattle.model.specs.Sound.{sound_hall, sound}
use Rattle.model.specs.Calls.{Call, begin, on, ask, sweep, thin, replay, decide, next}
use Rattle.model.specs.History.{in_bytes}
use Rattle.model.proofs.Cases.{by_bool, by_option}
use Rattle.model_laws.proofs.Sizes.{created_sizes, sizes_kept}
use Rattle.model_laws.proofs.Demands.{starts_sound, keeps_sound}
use Rattle.hall.specs.Layout as hall
use Rattle.hall.proofs.Laws.Halls.{good_hall}
use Rattle.hall.proofs.Laws.Tables.{length_tables}
use Rattle.desk.specs.Layout as desk
use Rattle.desk.specs.Shape.{RoomFor}
use Rattle.desk.proofs.Laws.Layout.{length_desks}
use Rattle.desk.proofs.Laws.Sound.{all_there}
use Rattle.bridge.specs.Store.{store_in, looks_at_desks, hall_after, desk_after, are_sound, Sound}
use Rattle.bridge.specs.Creations.{created_on}
use Rattle.bridge.proofs.Laws.Memories.{sound_of, unsound, hall_left, desk_left}
use Rattle.bridge.proofs.Laws.Kept.{desks_sound, hall_sound, desks_room, desks_kept, is_sound_lem}
use Rattle.store.specs.Images.{hall_needs, desk_needs, HallPastKept, HallPastCreated, DeskPastKept, DeskPastCreated}
use Rattle.store.proofs.Laws.Runs.{lent, some_created_on}

put_past : (m : Bytes) (h : Hall) → sound_hall h ≡ true → drop (hall.needed h.key_rooms h.version_rooms) (hall.put_hall m h) ≡ drop (hall.needed h.key_rooms h.version_rooms) m
unfolding hall.put_hall hall.put_tables hall.tables_for
put_past m h p = drop_at (hall.table_bytes (hall.tables_for h)) _ _ (length_tables (hall.tables_for h) (good_hall h p))

desks_past : (m : Bytes) (ds : List Desk) → RoomFor ds → drop (desk.needed (length ds)) (desk.put_desks m ds) ≡ drop (desk.needed (length ds)) m
unfolding desk.put_desks
desks_past m ds r = drop_at (desk.desks_bytes ds) _ _ (length_desks m ds r)

-- ---- calls

-- memories of which one is not sound are left
unsound_left : (h d : Bytes) → are_sound h d ≡ false → (c : Call) → (hall_after h d c ≡ h) × (desk_after h d c ≡ d)
unfolding looks_at_desks
unsound_left h d e begin = let r = unsound h d begin refl e in (sym r.hall, sym r.desk)
unsound_left h d e (on t a) = let r = unsound h d (on t a) refl e in (sym r.hall, sym r.desk)
unsound_left h d e (ask q) = (lent h d).asks q
unsound_left h d e (sweep l) = let r = unsound h d (sweep l) refl e in (sym r.hall, sym r.desk)
unsound_left h d e (thin l) = let r = unsound h d (thin l) refl e in (sym r.hall, sym r.desk)
unsound_left h d e (replay x) = let r = unsound h d (replay x) refl e in (sym r.hall, sym r.desk)

module _ (h d : Bytes) (c : Call) (b : in_bytes c ≡ true) (s : Sound h d) where
  after_sound : sound (next (store_in h d) c) ≡ true
  after_sound = keeps_sound (store_in h d) c b (is_sound_lem h d s)

  sound_past : drop (hall_needs h) (hall_after h d c) ≡ drop (hall_needs h) h
  unfolding store_in
  sound_past =
      let k = sizes_kept (store_in h d) (decide (store_in h d) c).effect in
      let x = (next (store_in h d) c).hall in
      rw (hall_left h d s c) (rw (k.0, k.1) at (put_past h x (hall_sound (next (store_in h d) c) after_sound)))

  sound_desks_past : drop (desk_needs d) (desk_after h d c) ≡ drop (desk_needs d) d
  unfolding store_in
  sound_desks_past =
      let x = (next (store_in h d) c).desks in
      rw (desk_left h d s c)
      (rw (desks_kept (store_in h d) (decide (store_in h d) c).effect) at (desks_past d x (desks_room (next (store_in h d) c) after_sound)))

pub hall_past_kept : HallPastKept
hall_past_kept h d c b =
    by_bool (are_sound h d) (λ p. sound_past h d c b (sound_of h d p)) (λ p. ap (λ (m : Bytes). drop (hall_needs h) m) (unsound_left h d p c).0)

pub desk_past_kept : DeskPastKept
desk_past_kept h d c b =
    by_bool (are_sound h d) (λ p. sound_desks_past h d c b (sound_of h d p)) (λ p. ap (λ (m : Bytes). drop (desk_needs d) m) (unsound_left h d p c).1)

-- ---- make and load

pub hall_past_created : HallPastCreated
hall_past_created m o b =
    by_option (created_on m.hall m.desk o).1
    (λ e. rw e)
    (λ s e.
    let a = some_created_on m.hall m.desk o s e in
    let k = created_sizes o s a in
    rw (e, ← k.0, ← k.1) (put_past m.hall s.hall (hall_sound s (starts_sound o s b a))))

pub desk_past_created : DeskPastCreated
desk_past_created m o b =
    by_option (created_on m.hall m.desk o).1
    (λ e. rw e)
    (λ s e.
    let a = some_created_on m.hall m.desk o s e in
    let g = starts_sound o s b a in
    rw e
    (subst (λ (n : ℕ). drop (desk.needed n) (desk.put_desks m.desk s.desks) ≡ drop (desk.needed n) m.desk)
    (all_there s.hall s.desks (desks_sound s g) ∙ (created_sizes o s a).2)
    (desks_past m.desk s.desks (desks_room s g))))
