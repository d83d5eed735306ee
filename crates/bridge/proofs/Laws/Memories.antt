-- Calls on two memories: what refuses them, and what they leave.
-- Assumes nothing.
use mathlib.Core.Path.{◌≡◌, sym, ap, ◌∙◌}
use mathlib.Core.Bool.{Bool, true, false}
use Prim.Native.Nat.{ℕ}
use Rattle.model.specs.Bytes.{Bytes}
use Rattle.model.specs.State.{Store}
use Rattle.model.specs.Calls.{Question, Call, begin, on, ask, sweep, thin, replay, Answer, refused, Effect, stays, Outcome, answering, decide, apply, next}
use Rattle.model.proofs.Cases.{by_bool, true_false, and_left, and_right}
use Rattle.model_laws.proofs.Effects.{reply_stays}
use Rattle.hall.specs.Layout as hall
use Rattle.hall.proofs.Laws.Halls.{sound_sizes}
use Rattle.hall.proofs.Laws.Sound as halls
use Rattle.desk.specs.Layout as desk
use Rattle.desk.proofs.Laws.Sound as desks
use Rattle.bridge.specs.Store.{store_in, looks_at_desks, is_sound_for, outcome_on, hall_after, desk_after, are_sound, Sound}
use Rattle.bridge.specs.Clauses.{Called, DeskCalled, HallCalled}

module _ {h d h' d' : Bytes} {c : Call} {a : Answer} (r : Called h d h' d' c a) where
  pub by_desk : DeskCalled h d d' c a
  by_desk = record { answer = r.answer; desk = r.desk }

  pub by_hall : HallCalled h d h' c a
  by_hall = record { answer = r.answer; hall = r.hall }

pub unsound_hall : (h d : Bytes) (c : Call) → hall.is_sound h ≡ false → outcome_on h d c ≡ answering (refused 1) stays
unfolding outcome_on is_sound_for
unsound_hall h d c e = rw e

-- a question changes nothing
pub asked : (s : Store) (q : Question) → next s (ask q) ≡ s
unfolding decide apply
asked s q = rw (reply_stays s q)

-- a call that does not look at the desks is a question
unlooked : (s : Store) (c : Call) → looks_at_desks c ≡ false → next s c ≡ s
unfolding looks_at_desks
unlooked s begin e = true_false e
unlooked s (on t a) e = true_false e
unlooked s (ask q) e = asked s q
unlooked s (sweep l) e = true_false e
unlooked s (thin l) e = true_false e
unlooked s (replay x) e = true_false e

module _ (h d : Bytes) where
  pub sound_of : are_sound h d ≡ true → Sound h d
  unfolding are_sound
  sound_of e =
      let a : Bool = hall.is_sound h in
      let b : Bool = desk.is_sound (hall.hall_in h) d in
      let s = halls.tested h (and_left a b e) in
      let few = (sound_sizes (hall.hall_in h) s.hall).desks.1 in
      record { hall = s; desk = desks.tested (hall.hall_in h) d few (and_right a b e) }

  pub sound_tests : Sound h d → are_sound h d ≡ true
  unfolding are_sound
  sound_tests s = rw (halls.tests h s.hall, desks.tests (hall.hall_in h) d s.desk)

  -- ---- not sound

  module _ (c : Call) (l : looks_at_desks c ≡ true) (e : are_sound h d ≡ false) where
    not_sound : is_sound_for c h d ≡ false
    unfolding is_sound_for are_sound
    not_sound = rw l e

    pub outcome_unsound : outcome_on h d c ≡ answering (refused 1) stays
    unfolding outcome_on
    outcome_unsound = rw not_sound

    pub unsound : Called h d h d c (refused 1)
    unfolding hall_after desk_after
    unsound = record { answer = ap (λ (x : Outcome). x.answer) (sym outcome_unsound); hall = rw not_sound; desk = rw (l, not_sound) }

  -- ---- sound

  module _ (s : Sound h d) where
    sound_for : (c : Call) → is_sound_for c h d ≡ true
    unfolding is_sound_for
    sound_for c = rw (halls.tests h s.hall, desks.tests (hall.hall_in h) d s.desk) (by_bool (looks_at_desks c) (λ l. rw l) (λ l. rw l))

    pub outcome_sound : (c : Call) → outcome_on h d c ≡ decide (store_in h d) c
    unfolding outcome_on
    outcome_sound c = rw (sound_for c)

    -- the memories that the model's effect leaves
    pub hall_left : (c : Call) → hall_after h d c ≡ hall.put_hall h (next (store_in h d) c).hall
    unfolding hall_after
    hall_left c = rw (sound_for c)

    pub desk_left : (c : Call) → desk_after h d c ≡ desk.put_desks d (next (store_in h d) c).desks
    unfolding desk_after store_in
    desk_left c = by_bool (looks_at_desks c) (λ l. rw (l, sound_for c)) (λ l. rw (l, unlooked (store_in h d) c l) s.desk.same)

    pub leaves : (c : Call) {a : Answer} {h' d' : Bytes} → a ≡ (decide (store_in h d) c).answer
        → h' ≡ hall.put_hall h (next (store_in h d) c).hall → d' ≡ desk.put_desks d (next (store_in h d) c).desks → Called h d h' d' c a
    leaves c e p q = record { answer = e ∙ ap (λ (x : Outcome). x.answer) (sym (outcome_sound c)); hall = p ∙ sym (hall_left c); desk = q ∙ sym (desk_left c) }

    pub acts : {c : Call} {a : Answer} {e : Effect} → decide (store_in h d) c ≡ answering a e
        → {h' d' : Bytes} → h' ≡ hall.put_hall h (apply (store_in h d) e).hall → d' ≡ desk.put_desks d (apply (store_in h d) e).desks → Called h d h' d' c a
    acts {c} o p q = leaves c (ap (λ (x : Outcome). x.answer) (sym o)) (rw o p) (rw o q)

    pub refuses : {c : Call} {n : ℕ} → decide (store_in h d) c ≡ answering (refused n) stays → Called h d h d c (refused n)
    unfolding apply store_in
    refuses o = acts o s.hall.same s.desk.same
