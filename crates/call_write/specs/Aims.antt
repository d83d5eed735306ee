-- What a write is asked before it goes to its desk.
use Rattle.std.specs.Prelude.{ℕ, ◌≡◌, Bool, true, false, not, [], ◌∷◌, Option, Some}
use Rattle.model.specs.Bytes.{Bytes}
use Rattle.model.specs.State.{Writes, is_some, or_empty, writes_of}
use Rattle.model.specs.Sound.{key_fits}
use Rattle.model.specs.Calls.{Checks, Outcome, answering, stays, refused, check, is_too_many}
use Rattle.answers.specs.Paper.{number_of}
use Rattle.desk.specs.Layout.{desks_in}
use Rattle.desk.specs.Shape.{desk_in, desk_of, own_writes}
use Rattle.call_write.specs.declared.Aim.{Aim}
use Rattle.call_write.specs.declared.Aim.TheVariants.{At, Refused}

-- the tests of a write of key k, whose payload fits or not, under a start that has these writes, if it is open
abbrev pub write_checks : Bytes → Bool → Option Writes → Checks
write_checks k fits ws =
    (not (key_fits k), 3) ∷ (not fits, 4) ∷ (not (is_some ws), 5) ∷ (is_too_many k (or_empty ws), 7) ∷ []

-- desk d of memory m takes it
pub record Takes (m : Bytes) (t : ℕ) (k : Bytes) (fits : Bool) (d : ℕ) : Type 0 where
  pub key : key_fits k ≡ true
  pub payload : fits ≡ true
  pub place : desk_of t (desks_in m) ≡ Some d
  pub room : is_too_many k (own_writes (desk_in m d)) ≡ false

-- it is refused n, whatever it would have done
pub record Refuses (m : Bytes) (t : ℕ) (k : Bytes) (fits : Bool) (n : ℕ) : Type 0 where
  pub always : (o : Outcome) → check (write_checks k fits (writes_of t (desks_in m))) o ≡ answering (refused n) stays

abbrev pub Aims : Bytes → ℕ → Bytes → Bool → Aim → Type 0
Aims m t k fits (At d) = Takes m t k fits d
Aims m t k fits (Refused r) = Refuses m t k fits (number_of r)
