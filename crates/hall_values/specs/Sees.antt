-- What a transaction sees of the hall.
use Rattle.std.specs.Prelude.{ℕ, Option}
use Rattle.model.specs.Bytes.{Bytes}
use Rattle.model.specs.State.{look, visible, value_of}
use Rattle.hall.specs.Layout.{hall_in}

-- what start t sees of key k in hall memory h
abbrev pub sees : (h : Bytes) → (t : ℕ) → (k : Bytes) → Option Bytes
sees h t k = value_of (visible t (look k (hall_in h).entries))
