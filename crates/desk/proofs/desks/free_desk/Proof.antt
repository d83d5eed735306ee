-- The complement's trailing zeros count the desks before the first free one; if that is all of them, none is free.
use Prim.Native.Nat.{◌-◌, ◌^◌}
use native.Mathlib.Omega.{arith}
use borrow.Author.Rules.{rules}
use borrow.Author.Tests.{lt-ltb, le-ltb}
use lib.Count.{trailing_le}
use Rattle.model.specs.Sizes.{max_desks}
use Rattle.desk.proofs.Laws.Bits.{first_free}
use Rattle.desk.proofs.Laws.Shaped.{occupied_in_lem}
use Rattle.desk.proofs.desks.free_desk.Statement.{statement}
use Rattle.desk.proofs.desks.free_desk.Tie as tie

cast_d : tie.Need-overflow_cast-d
cast_d c = omega (arith, trailing_le max_desks (2 ^ max_desks - 1 - c.occupied.result))

returns : tie.Need-returns-then-d-desk_count
returns c =
    rw (
      first_free max_desks _ c.requires.room.count,
      ← occupied_in_lem _ c.requires,
      ← c.occupied.ensures,
      ← c.desk_count.ensures,
      lt-ltb _ _ c.if-d-desk_count.true,
    )

returns_2 : tie.Need-returns
returns_2 c =
    rw (
      first_free max_desks _ c.requires.room.count,
      ← occupied_in_lem _ c.requires,
      ← c.occupied.ensures,
      ← c.desk_count.ensures,
      le-ltb _ _ c.if-d-desk_count.false,
    )

pub free_desk_spec : {M : Type 1} → statement M
free_desk_spec = tie.close (tie.spec (λ c κs. search rules) cast_d (λ c κs. search rules) returns returns_2)
