-- A value of a cell, as a place in hall or desk memory.
use Rattle.std.specs.Prelude.{◌≡◌, Option, None, Some}
use Rattle.model.specs.Bytes.{Bytes}
use Rattle.cells.specs.Values as values
use Rattle.memory.specs.declared.spans.Span.{Span}
use Rattle.hall_values.specs.declared.Placed.{Placed}
use Rattle.hall_values.specs.declared.Placed.TheVariants.{Own, Held, Nothing}

-- the value v of memory m is o
abbrev pub Stands : (m : Bytes) → Option Span → (o : Option Bytes) → Type 0
Stands m v o = (values.bytes_at m v ≡ o) × values.Inside m v

abbrev pub own_place : Option Span → Placed
own_place (Some s) = Own s.at s.len
own_place None = Nothing

abbrev pub held_place : Option Span → Placed
held_place (Some s) = Held s.at s.len
held_place None = Nothing
