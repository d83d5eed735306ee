-- Marks of starts: a row of bytes with one that is not 0 where each start's lowest bits say.
use Rattle.std.specs.Prelude.{ℕ, ◌%◌, ◌≡◌, Bool, not, false, List, [], eqb, length, get_or}
use Rattle.model.specs.Bytes.{Bytes}
use Rattle.model.specs.State.{Version, Desk, is_some, writes_of}
use Rattle.desk_starts.specs.Starts.{none_starts}

-- with 64 starts about one number in 64 has the mark of another
abbrev pub mark_count : ℕ
mark_count = 4096

abbrev pub mark_place : ℕ → ℕ
mark_place t = t % mark_count

abbrev pub is_marked : Bytes → ℕ → Bool
is_marked m t = not (eqb (get_or m (mark_place t) 0) 0)

-- each start of ds has its mark, but for those of the desks `left`
pub record Marked (m : Bytes) (ds left : List Desk) : Type 0 where
  pub long : length m ≡ mark_count
  pub starts : (t : ℕ) → is_marked m t ≡ false → is_some (writes_of t ds) ≡ is_some (writes_of t left)

-- from the versions us on to those of vs: no number between is a start that has its mark
abbrev pub Passed : Bytes → (us vs : List Version) → Type 0
Passed m us vs = (ds : List Desk) → Marked m ds [] → none_starts ds us ≡ none_starts ds vs
