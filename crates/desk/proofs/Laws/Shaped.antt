-- Shaped desk memory: its parts, and a store that changes one desk.
-- Assumes nothing.
use mathlib.Core.Path.{◌≡◌, refl, sym, ap, ◌∙◌}
use mathlib.Core.List.{List, [], ◌∷◌, ◌++◌, map, append_assoc}
use Prim.Native.Nat.{ℕ, zero, suc, ◌+◌, ◌≤◌, ◌<◌}
use native.Mathlib.Omega.{arith}
use lib.ListN.{length, get_or, set, length-map, length-set}
use lib.Seq.{sets}
use Rattle.model.specs.Sizes.{max_desks, number_width}
use Rattle.model.specs.Bytes.{Bytes, part, bytes}
use Rattle.model.specs.State.{Desk, free, taken}
use Rattle.memory.specs.Rows.{joined}
use Rattle.memory.proofs.Laws.Numbers.{length_bytes}
use Rattle.memory.proofs.Laws.Parts.{sets_mid}
use Rattle.memory.proofs.Laws.Each.{each_set}
use Rattle.memory.proofs.Laws.Rows.{get_d_map, map_set}
use Rattle.desk.specs.Layout.{desk_width, desks_place, desk_place, occupied, desk_bytes, occupied_in, desks_in, put_desks}
use Rattle.desk.specs.Shape.{RoomForDesk, RoomFor, Shaped, desk_in, IsTaken}
use Rattle.desk.proofs.Laws.Within.{row_of, store_within}
use Rattle.desk.proofs.Laws.Layout.{front_parts, length_desk, desks_sized, head, rest, length_head, put_parts, put_occupied}

-- ---- one desk of a list

pub room_changed : (ds : List Desk) (d : ℕ) (y : Desk) → RoomForDesk y → RoomFor ds → RoomFor (set ds d y)
room_changed ds d y r s = record { count = rw length-set s.count; each = each_set RoomForDesk ds d y s.each r }

-- a taken desk that stays taken leaves the bits
pub occupied_stays : (ds : List Desk) (d : ℕ) (y : Desk) → IsTaken (get_or ds d free) → IsTaken y → occupied (set ds d y) ≡ occupied ds
unfolding occupied
occupied_stays [] d y p q = refl
occupied_stays (free ∷ ds) zero y p q = absurd p
occupied_stays (taken x ∷ ds) zero free p q = absurd q
occupied_stays (taken x ∷ ds) zero (taken y) p q = refl
occupied_stays (free ∷ ds) (suc d) y p q = rw (occupied_stays ds d y p q)
occupied_stays (taken x ∷ ds) (suc d) y p q = rw (occupied_stays ds d y p q)

-- ---- shaped memory

module _ (m : Bytes) (s : Shaped m) where
  pub occupied_in_lem : occupied_in m ≡ occupied (desks_in m)
  occupied_in_lem = ap (λ (b : Bytes). occupied_in b) s.same ∙ put_occupied m _ s.room

  in_parts : m ≡ head m (desks_in m) ++ (joined (map desk_bytes (desks_in m)) ++ rest m (desks_in m))
  in_parts = s.same ∙ put_parts m _

  module _ (d : ℕ) (h : d < length (desks_in m)) where
    pub below_max : d < max_desks
    below_max = omega arith

    pub desk_within : desk_place d + desk_width ≤ length m
    desk_within = omega arith

    below_map : d < length (map desk_bytes (desks_in m))
    below_map = rw length-map h

    pub desk_part : part m (desk_place d) desk_width ≡ desk_bytes (desk_in m d)
    desk_part =
        ap (λ (b : Bytes). part b (desk_place d) desk_width) in_parts
        ∙ row_of _ _ d (head m (desks_in m)) _ _ (length_head m _) (desks_sized _ s.room) below_map
        ∙ get_d_map desk_bytes (desks_in m) d free [] h

    -- a store that makes the row of desk d the row of y, behind the head that y's desks have
    desk_put : (k : ℕ) (bs : Bytes) (y : Desk) (m₁ : Bytes) → m₁ ≡ head m (set (desks_in m) d y) ++ (joined (map desk_bytes (desks_in m)) ++ rest m (desks_in m))
        → RoomForDesk y → k + length bs ≤ desk_width → sets (desk_bytes (desk_in m d)) k bs ≡ desk_bytes y
        → sets m₁ (desk_place d + k) bs ≡ put_desks m (set (desks_in m) d y)
    desk_put k bs y m₁ f r l g =
        let ds : List Desk = desks_in m in
        let es : List Desk = set ds d y in
        let i : sets (get_or (map desk_bytes ds) d []) k bs ≡ desk_bytes y = rw (get_d_map desk_bytes ds d free [] h) g in
        rw (f, put_parts, map_set, length-set ds d y)
        (rw (length-set ds d y) at (store_within desk_width (map desk_bytes ds) d (head m es) (rest m ds) desks_place (length_head m es) (desks_sized ds s.room) below_map k bs (desk_bytes y) l (length_desk y r) i))

    -- the bits of the changed desks, then that store
    pub desk_stored : (k : ℕ) (bs : Bytes) (y : Desk) → RoomForDesk y → k + length bs ≤ desk_width → sets (desk_bytes (desk_in m d)) k bs ≡ desk_bytes y
        → sets (sets m 0 (bytes number_width (occupied (set (desks_in m) d y)))) (desk_place d + k) bs ≡ put_desks m (set (desks_in m) d y)
    desk_stored k bs y r l g =
        let ds : List Desk = desks_in m in
        let a : Bytes = bytes number_width (occupied (set ds d y)) in
        let b : Bytes = bytes number_width (occupied ds) in
        let z : Bytes = joined (map desk_bytes ds) ++ rest m ds in
        let f : sets m 0 a ≡ head m (set ds d y) ++ z =
        ap (λ (x : Bytes). sets x 0 a) (in_parts ∙ append_assoc b _ z)
        ∙ sets_mid [] b _ a 0 refl (length_bytes _ _ ∙ sym (length_bytes _ _))
        ∙ ap (λ (n : ℕ). a ++ (n ∷ z)) (sym (length-set ds d y))
        ∙ front_parts _ _ z in
        desk_put k bs y _ f r l g

    -- the same where the desk stays taken
    pub desk_changed : (k : ℕ) (bs : Bytes) (y : Desk) → IsTaken (desk_in m d) → IsTaken y → RoomForDesk y → k + length bs ≤ desk_width
        → sets (desk_bytes (desk_in m d)) k bs ≡ desk_bytes y → sets m (desk_place d + k) bs ≡ put_desks m (set (desks_in m) d y)
    desk_changed k bs y p q r l g =
        let ds : List Desk = desks_in m in
        desk_put k bs y m (in_parts ∙ rw (occupied_stays, length-set)) r l g
