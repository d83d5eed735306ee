-- A memory without the form is not sound; one that has it is sound just when its rows are in order.
use mathlib.Core.Path.{◌≡◌, ◌∙◌}
use mathlib.Core.Bool.{true}
use native.Mathlib.Omega.{arith}
use borrow.Author.Rules.{rules}
use Rattle.model.specs.Bytes.{are_bytes}
use Rattle.memory.proofs.Laws.Numbers.{are_bytes_of}
use Rattle.memory.proofs.Laws.Tests.{refused, passed}
use Rattle.hall_shape.proofs.Laws.{shape_shaped}
use Rattle.hall_sound.proofs.Laws.Whole.{decides, not_shaped}
use Rattle.hall_sound.proofs.is_sound.Statement.{statement}
use Rattle.hall_sound.proofs.is_sound.Tie as tie

returns : tie.Need-returns-then-not-is_shaped
returns c = not_shaped _ (refused c.is_shaped.ensures (rw c.if-not-is_shaped.true))

all_bytes : (c : tie.After-shared_slice_known-1) → are_bytes c.args.m.now ≡ true
all_bytes c = are_bytes_of _ (λ i. omega (arith, c.shared_slice_known-1.given i))

are_ordered_requires : tie.Need-are_ordered-requires
are_ordered_requires c κs =
    shape_shaped _ (all_bytes c.before.before) (passed c.is_shaped.ensures (rw c.if-not-is_shaped.false))

returns_2 : tie.Need-returns
returns_2 c =
    c.are_ordered.ensures
    ∙ decides _ (all_bytes c.before.before.before) (passed c.is_shaped.ensures (rw c.if-not-is_shaped.false))

pub is_sound_spec : {M : Type 1} → statement M
is_sound_spec =
    tie.close (tie.spec (λ c κs. search rules) returns are_ordered_requires returns_2)
