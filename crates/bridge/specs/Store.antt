-- The calls on two memories: what each answers, which bytes it hands back, and what it leaves in them. A memory that is
-- not sound is refused, and stays as it was.
use Rattle.std.specs.Prelude.{Bool, true, false, ◌&&◌, cond}
use Rattle.model.specs.Bytes.{Bytes}
use Rattle.model.specs.State.{Store}
use Rattle.model.specs.Calls.{Question, newest, as_of, counts, dump, Call, begin, on, ask, sweep, thin, replay, Answer, refused, Outcome, stays, answering, decide, next}
use Rattle.hall.specs.Layout as hall
use Rattle.hall.specs.Layout.{hall_in}
use Rattle.desk.specs.Layout as desk

-- the store in hall memory h and desk memory d
unfoldable pub store_in : (h d : Bytes) → Store
store_in h d = record { hall = hall_in h; desks = desk.desks_in d }

-- newest, as_of and dump look at hall memory only
unfoldable pub asks_desks : Question → Bool
asks_desks (newest k) = false
asks_desks (as_of n k) = false
asks_desks counts = true
asks_desks (dump room) = false

unfoldable pub looks_at_desks : Call → Bool
looks_at_desks begin = true
looks_at_desks (on t a) = true
looks_at_desks (ask q) = asks_desks q
looks_at_desks (sweep l) = true
looks_at_desks (thin l) = true
looks_at_desks (replay x) = true

unfoldable pub is_sound_for : Call → (h d : Bytes) → Bool
is_sound_for c h d = hall.is_sound h && cond (looks_at_desks c) (desk.is_sound (hall_in h) d) true

unfoldable pub outcome_on : (h d : Bytes) → Call → Outcome
outcome_on h d c = cond (is_sound_for c h d) (decide (store_in h d) c) (answering (refused 1) stays)

abbrev pub answer_on : (h d : Bytes) → Call → Answer
answer_on h d c = (outcome_on h d c).answer

abbrev pub bytes_on : (h d : Bytes) → Call → Bytes
bytes_on h d c = (outcome_on h d c).bytes

-- what a caller sees of a call on two memories
abbrev pub response_on : (h d : Bytes) → Call → Answer × Bytes
response_on h d c = (answer_on h d c, bytes_on h d c)

unfoldable pub hall_after : (h d : Bytes) → Call → Bytes
hall_after h d c = cond (is_sound_for c h d) (hall.put_hall h (next (store_in h d) c).hall) h

-- a call that does not look at desk memory leaves it, whatever it holds
unfoldable pub desk_after : (h d : Bytes) → Call → Bytes
desk_after h d c = cond (looks_at_desks c && is_sound_for c h d) (desk.put_desks d (next (store_in h d) c).desks) d

-- ---- both memories

pub record Memories : Type 0 where
  pub hall : Bytes
  pub desk : Bytes

abbrev pub memories_of : (h d : Bytes) → Memories
memories_of h d = record { hall = h; desk = d }

-- the memories that one call leaves
abbrev pub after_call : Memories → Call → Memories
after_call m c = record { hall = hall_after m.hall m.desk c; desk = desk_after m.hall m.desk c }

-- ---- both memories sound

unfoldable pub are_sound : (h d : Bytes) → Bool
are_sound h d = hall.is_sound h && desk.is_sound (hall_in h) d

-- the same, as inner forms ask for it
pub record Sound (h d : Bytes) : Type 0 where
  pub hall : hall.Sound h
  pub desk : desk.Sound (hall_in h) d
