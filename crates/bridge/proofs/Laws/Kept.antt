-- Memories that a call leaves: those that stay as they were, and that both are sound again.
-- Assumes nothing.
use Prim.Native.Nat.{◌^◌, ◌≤◌, ◌<◌}
use native.Mathlib.Omega.{arith}
use mathlib.Core.Path.{◌≡◌, refl, sym, subst}
use mathlib.Core.Bool.{true, ◌&&◌}
use lib.ListN.{length}
use Rattle.model.specs.Sizes.{max_desks, number_width}
use Rattle.model.specs.Bytes.{Bytes}
use Rattle.model.specs.State.{Hall, Store}
use Rattle.model.specs.Sound.{sound_hall, sound_desks, sound}
use Rattle.model.specs.Calls.{Call, Effect, stays, opens, writes, closes, publishes, trims, replays, decide, apply, next}
use Rattle.model.specs.History.{in_bytes}
use Rattle.model.proofs.Cases.{by_bool, and_intro, and_left, and_right}
use Rattle.model_laws.proofs.Desks.{length_seat, length_redesk}
use Rattle.model_laws.proofs.Tested.{hall_parts}
use Rattle.model_laws.proofs.Sizes.{sizes_kept}
use Rattle.model_laws.proofs.Demands.{keeps_sound}
use Rattle.hall.specs.Layout as hall
use Rattle.hall.proofs.Laws.Halls.{sound_sizes}
use Rattle.hall.proofs.Laws.Sound as halls
use Rattle.desk.specs.Layout as desk
use Rattle.desk.specs.Shape.{RoomFor}
use Rattle.desk.proofs.Laws.Sound as desks
use Rattle.desk.proofs.Laws.Layout.{desks_get, put_length}
use Rattle.bridge.specs.Store.{store_in, looks_at_desks, is_sound_for, hall_after, desk_after, are_sound, Sound}
use Rattle.bridge.proofs.Laws.Memories.{sound_of, hall_left, desk_left}

-- ---- what stays

-- a call that leaves the model's hall leaves hall memory
pub hall_stays : (h d : Bytes) (c : Call) → (is_sound_for c h d ≡ true → (next (store_in h d) c).hall ≡ hall.hall_in h) → hall_after h d c ≡ h
unfolding hall_after is_sound_for
hall_stays h d c f =
    by_bool (is_sound_for c h d) (λ p. rw (p, f p) (sym (halls.tested h (and_left (hall.is_sound h) _ p)).same)) (λ p. rw p refl)

pub desks_stay : (h d : Bytes) (c : Call) → (is_sound_for c h d ≡ true → (next (store_in h d) c).desks ≡ desk.desks_in d) → desk_after h d c ≡ d
unfolding desk_after is_sound_for are_sound
desks_stay h d c f =
    by_bool (looks_at_desks c && is_sound_for c h d)
    (λ p.
    let l = and_left (looks_at_desks c) (is_sound_for c h d) p in
    let q = and_right (looks_at_desks c) (is_sound_for c h d) p in
    rw (p, f q) (sym (sound_of h d (rw l at q)).desk.same))
    (λ p. rw p refl)

-- ---- a store put into two memories

pub desks_sound : (s : Store) → sound s ≡ true → sound_desks s.hall s.desks ≡ true
unfolding sound
desks_sound s e = and_right (sound_hall s.hall) _ e

pub hall_sound : (s : Store) → sound s ≡ true → sound_hall s.hall ≡ true
unfolding sound
hall_sound s e = and_left (sound_hall s.hall) _ e

-- the counter fits its field
pub counter_low : (h : Hall) → sound_hall h ≡ true → h.counter < 256 ^ number_width
counter_low h e = omega (arith, (hall_parts h e).counter)

few_desks_lem : (s : Store) → sound s ≡ true → s.hall.desk_count ≤ max_desks
few_desks_lem s e = (sound_sizes s.hall (hall_sound s e)).desks.1

pub desks_room : (s : Store) → sound s ≡ true → RoomFor s.desks
desks_room s e = desks.sound_room s.hall s.desks (desks_sound s e) (few_desks_lem s e) (counter_low s.hall (hall_sound s e))

module _ (h d : Bytes) (s : Store) (e : sound s ≡ true) where
  pub put_store : store_in (hall.put_hall h s.hall) (desk.put_desks d s.desks) ≡ s
  unfolding store_in
  put_store i = record { hall = halls.hall_read h s.hall (hall_sound s e) i; desks = desks_get d s.desks (desks_room s e) i }

  pub put_sound : hall.needed s.hall.key_rooms s.hall.version_rooms ≤ length h → desk.needed (length s.desks) ≤ length d
      → Sound (hall.put_hall h s.hall) (desk.put_desks d s.desks)
  put_sound a b =
      let p = hall_sound s e in
      record {
        hall = halls.put_sound h s.hall p a;
        desk = subst (λ (g : Hall). desk.Sound g (desk.put_desks d s.desks)) (sym (halls.hall_read h s.hall p))
            (desks.put_sound s.hall d s.desks (few_desks_lem s e) (counter_low s.hall p) (desks_sound s e) b);
      }

-- ---- one call

pub desks_kept : (s : Store) (e : Effect) → length (apply s e).desks ≡ length s.desks
unfolding apply
desks_kept s stays = refl
desks_kept s (opens t) = length_seat t s.desks
desks_kept s (writes t k p) = length_redesk t _ s.desks
desks_kept s (closes t) = length_redesk t _ s.desks
desks_kept s (publishes t n ws) = length_redesk t _ s.desks
desks_kept s (trims c g) = refl
desks_kept s (replays cs) = refl

module _ (h d : Bytes) (s : Sound h d) where
  pub is_sound_lem : sound (store_in h d) ≡ true
  unfolding sound store_in
  is_sound_lem = and_intro s.hall.hall s.desk.desks

  module _ (c : Call) (b : in_bytes c ≡ true) where
    abbrev after : Store
    after = next (store_in h d) c

    sound_next : sound after ≡ true
    sound_next = keeps_sound (store_in h d) c b is_sound_lem

    hall_long : hall.needed after.hall.key_rooms after.hall.version_rooms ≤ length h
    unfolding store_in
    hall_long = let k = sizes_kept (store_in h d) (decide (store_in h d) c).effect in rw (k.0, k.1) s.hall.long

    desks_long : desk.needed (length after.desks) ≤ length d
    unfolding store_in
    desks_long = rw (desks_kept (store_in h d) (decide (store_in h d) c).effect) s.desk.long

    -- the memories are sound again
    pub call_sound : Sound (hall_after h d c) (desk_after h d c)
    call_sound = rw (hall_left h d s c, desk_left h d s c) (put_sound h d after sound_next hall_long desks_long)

    -- and hold the model's next store
    pub call_store : store_in (hall_after h d c) (desk_after h d c) ≡ next (store_in h d) c
    call_store = rw (hall_left h d s c, desk_left h d s c) (put_store h d after sound_next)

    pub call_lengths : (length (hall_after h d c) ≡ length h) × (length (desk_after h d c) ≡ length d)
    call_lengths = (
      rw (hall_left h d s c) (halls.put_hall_length h after.hall (hall_sound after sound_next) hall_long),
      rw (desk_left h d s c) (put_length d after.desks (desks_room after sound_next) desks_long),
    )
