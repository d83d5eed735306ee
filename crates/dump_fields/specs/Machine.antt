-- The model's parser as a machine: a step for each field. What a field may say is the parser's test, word for word.
use Rattle.std.specs.Prelude.{ℕ, zero, suc, ◌+◌, ◌-◌, Bool, true, false, not, cond, List, [], ◌∷◌, leb, ltb, eqb, length, Result, Ok, Err}
use Rattle.model.specs.Sizes.{max_key, max_value, magic_width, number_width, count_width, tag_width}
use Rattle.model.specs.Bytes.{Bytes, num, order, is_less, is_same}
use Rattle.model.specs.Sound.{are_printable}
use Rattle.model.specs.Dump.{magic}
use Rattle.model.specs.Load.{fault}
use Rattle.model.specs.Calls.{Answer, faulty, done}
use Rattle.dump_fields.specs.Drive.{Taker, drive}
use Rattle.dump_fields.specs.declared.machine.Phase.{Phase}
use Rattle.dump_fields.specs.declared.machine.Phase.TheVariants.{Magic, Next, Count, KeyLength, Key, VersionCount, Number, Tag, ValueLength, Value, End}
use Rattle.dump_fields.specs.declared.machine.Loader.{Loader}
use Rattle.dump_fields.specs.declared.machine.Fault.{Fault}
use Rattle.dump_fields.specs.declared.machine.Fault.TheVariants.{CutShort, Malformed, TooBig}

-- ---- a field

-- the number that a field says; one too long for a number says none
unfoldable pub said : Bytes → ℕ
said f = cond (ltb number_width (length f)) 0 (num f)

-- no field is without bytes
abbrev pub or_one : ℕ → ℕ
or_one zero = 1
or_one (suc n) = suc n

-- how many bytes the field has; after the end, one byte is one too many
abbrev pub width_of : Phase → ℕ
width_of Magic = magic_width
width_of Next = number_width
width_of Count = count_width
width_of KeyLength = count_width
width_of (Key n) = or_one n
width_of VersionCount = count_width
width_of Number = number_width
width_of Tag = tag_width
width_of ValueLength = count_width
width_of (Value n) = or_one n
width_of End = 1

abbrev pub is_key : Phase → Bool
is_key (Key n) = true
is_key _ = false

abbrev pub is_end : Phase → Bool
is_end End = true
is_end _ = false

-- ---- what it may say

-- the tests of a field that says n; is it printable, is it above the last key, does it open a dump
abbrev pub tests_of : Phase → Loader → (n : ℕ) → (printable above magical : Bool) → List (Bool × Fault)
tests_of Magic s n printable above magical = (not magical, Malformed) ∷ []
tests_of Next s n printable above magical = (ltb n 1, Malformed) ∷ []
tests_of Count s n printable above magical = (ltb s.keys n, TooBig) ∷ []
tests_of KeyLength s n printable above magical = (ltb n 1, Malformed) ∷ (ltb max_key n, Malformed) ∷ []
tests_of (Key k) s n printable above magical = (not printable, Malformed) ∷ (not above, Malformed) ∷ []
tests_of VersionCount s n printable above magical = (ltb n 1, Malformed) ∷ (ltb s.rooms n, TooBig) ∷ []
tests_of Number s n printable above magical = (leb n s.last, Malformed) ∷ (leb s.next n, Malformed) ∷ []
tests_of Tag s n printable above magical = (ltb 1 n, Malformed) ∷ []
tests_of ValueLength s n printable above magical = (ltb max_value n, Malformed) ∷ []
tests_of (Value k) s n printable above magical = []
tests_of End s n printable above magical = (true, Malformed) ∷ []

-- those of a field's bytes
abbrev pub field_tests : Phase → Loader → (n : ℕ) → (last f : Bytes) → List (Bool × Fault)
field_tests p s n last f = tests_of p s n (are_printable f) (is_less (order last f)) (is_same (order f magic))

-- the refusal's number
abbrev pub fault_number : Fault → ℕ
fault_number CutShort = 13
fault_number Malformed = 14
fault_number TooBig = 15

-- the tests as the model has them
abbrev pub numbered : List (Bool × Fault) → List (Bool × ℕ)
numbered [] = []
numbered ((b, f) ∷ cs) = (b, fault_number f) ∷ numbered cs

abbrev pub fault_of : Phase → Loader → (n : ℕ) → (last f : Bytes) → ℕ
fault_of p s n last f = fault (numbered (field_tests p s n last f))

-- ---- what comes after it

-- the field after a version, or after the key count
abbrev pub between : Loader → Phase
between s = cond (eqb s.versions 0) (cond (eqb s.keys 0) End KeyLength) Number

-- what is known after a field that says n
abbrev pub known_after : Phase → Loader → (n : ℕ) → Loader
known_after Next s n = record s { next = n }
known_after Count s n = record s { keys = n }
known_after VersionCount s n = record s { keys = s.keys - 1; rooms = s.rooms - n; versions = n; last = 0 }
known_after Number s n = record s { versions = s.versions - 1; last = n }
known_after _ s n = s

-- the field after one that says n, where s is known; a value without bytes is no field
abbrev pub phase_after : Phase → Loader → (n : ℕ) → Phase
phase_after Magic s n = Next
phase_after Next s n = Count
phase_after Count s n = between s
phase_after KeyLength s n = Key n
phase_after (Key k) s n = VersionCount
phase_after VersionCount s n = Number
phase_after Number s n = Tag
phase_after Tag s n = cond (eqb n 0) (between s) ValueLength
phase_after ValueLength s n = cond (eqb n 0) (between s) (Value n)
phase_after (Value k) s n = between s
phase_after End s n = End

-- ---- a step, and a run

-- the fault of the first test that holds
abbrev pub judged : List (Bool × Fault) → Result (Unit {0}) Fault
judged [] = Ok tt
judged ((b, f) ∷ cs) = cond b (Err f) (judged cs)

abbrev pub go_or : Result (Unit {0}) Fault → Phase → Loader → Result (Phase × Loader) Fault
go_or (Ok u) p s = Ok (p, s)
go_or (Err f) p s = Err f

unfoldable pub step_of : Phase → Loader → (last f : Bytes) → Result (Phase × Loader) Fault
step_of p s last f =
    go_or (judged (field_tests p s (said f) last f)) (phase_after p (known_after p s (said f)) (said f))
    (known_after p s (said f))

abbrev pub begun : (key_rooms version_rooms : ℕ) → Loader
begun ks vs = record { next = 0; keys = ks; rooms = vs; versions = 0; last = 0 }

-- the input ends in or before the field at `at`
abbrev pub finished : Phase → (at : ℕ) → Answer
finished p at = cond (is_end p) done (faulty (fault_number CutShort) at)

abbrev pub last_by : (is_key : Bool) → (last f : Bytes) → Bytes
last_by true last f = f
last_by false last f = last

-- before the field at `at`, after the key `last`
pub record Standing : Type 0 where
  pub phase : Phase
  pub known : Loader
  pub last : Bytes
  pub at : ℕ

abbrev pub moves : Result (Phase × Loader) Fault → (last : Bytes) → (at to : ℕ) → Result Standing Answer
moves (Ok (p, s)) last at to = Ok (record { phase = p; known = s; last = last; at = to })
moves (Err f) last at to = Err (faulty (fault_number f) at)

abbrev pub checker : Taker Standing Answer
checker = record {
  width = λ x. width_of x.phase;
  takes = λ x f. moves (step_of x.phase x.known x.last f) (last_by (is_key x.phase) x.last f) x.at
      (x.at + length f);
  ends = λ x. finished x.phase x.at;
}

abbrev pub run_fields : Phase → Loader → (last : Bytes) → (at : ℕ) → Bytes → Answer
run_fields p s last at x = drive checker (record { phase = p; known = s; last = last; at = at }) [] x

-- the machine's answer to a dump
unfoldable pub machine : (key_rooms version_rooms : ℕ) → Bytes → Answer
machine ks vs x = run_fields Magic (begun ks vs) [] 0 x
