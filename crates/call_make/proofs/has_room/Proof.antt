-- Sizes out of range decide; of those in range `needed_length` tells the lengths, and both memories' lengths decide.
use native.Mathlib.Omega.{arith}
use borrow.Author.Rules.{rules}
use Rattle.memory.proofs.Laws.Tests.{refused, passed}
use Rattle.hall.proofs.Laws.Halls.{few_rooms, fit_sizes}
use Rattle.call_make.proofs.Laws.{short_hall, long_hall}
use Rattle.call_make.proofs.has_room.Statement.{statement}
use Rattle.call_make.proofs.has_room.Tie as tie

desk_length_requires : tie.Need-needed_length-requires-2
desk_length_requires c κs =
    (fit_sizes _ _ _ (passed c.sizes_fit.ensures (rw c.if-not-sizes_fit.false))).desks.1

returns_3 : tie.Need-returns
returns_3 c =
    rw c.needed_length-2.ensures
    (long_hall _ _ _ _ _ (search (rules, passed)) (omega (arith, c.needed_length.ensures)))

pub has_room_spec : {M : Type 1} → statement M
has_room_spec =
    tie.close
    (tie.spec
    (λ c κs. search rules)
    (λ c. rw (refused c.sizes_fit.ensures (rw c.if-not-sizes_fit.true)))
    (λ c κs. few_rooms _ _ _ (passed c.sizes_fit.ensures (rw c.if-not-sizes_fit.false)))
    (λ c. short_hall _ _ _ _ _ (omega (arith, c.needed_length.ensures)))
    desk_length_requires
    returns_3)
