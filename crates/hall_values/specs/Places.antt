-- Where the value that a read hands back stands in the two memories, and what that place answers.
use Rattle.std.specs.Prelude.{◌+◌, ◌≤◌, ◌≡◌, [], length}
use Rattle.model.specs.Bytes.{Bytes, part}
use Rattle.model.specs.Calls.{Answer, refused, found, own_value, hall_value, nothing_there, Outcome}
use Rattle.answers.specs.Paper.{number_of}
use Rattle.hall_values.specs.declared.Placed.{Placed}
use Rattle.hall_values.specs.declared.Placed.TheVariants.{Refused, Own, Held, Nothing}

abbrev pub placed_answer : Placed → Answer
placed_answer (Refused r) = refused (number_of r)
placed_answer (Own p n) = found own_value
placed_answer (Held p n) = found hall_value
placed_answer Nothing = found nothing_there

-- the bytes there, of hall memory h or desk memory d
abbrev pub placed_bytes : (h d : Bytes) → Placed → Bytes
placed_bytes h d (Refused r) = []
placed_bytes h d (Own p n) = part d p n
placed_bytes h d (Held p n) = part h p n
placed_bytes h d Nothing = []

-- and the memory has them
abbrev pub Inside : (h d : Bytes) → Placed → Type 0
Inside h d (Refused r) = Unit {0}
Inside h d (Own p n) = p + n ≤ length d
Inside h d (Held p n) = p + n ≤ length h
Inside h d Nothing = Unit {0}

-- the place says what the outcome does
pub record Reading (h d : Bytes) (p : Placed) (o : Outcome) : Type 0 where
  pub answer : placed_answer p ≡ o.answer
  pub bytes : placed_bytes h d p ≡ o.bytes
  pub inside : Inside h d p
