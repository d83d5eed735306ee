-- No sound memory fails the test of its form or has another number of desks than the hall; the open desks decide the rest.
use mathlib.Core.Path.{◌∙◌}
use native.Mathlib.Omega.{arith}
use borrow.Author.Rules.{rules}
use Rattle.memory.proofs.Laws.Numbers.{are_bytes_of}
use Rattle.memory.proofs.Laws.Tests.{refused, passed}
use Rattle.hall.proofs.Laws.Sound.{sound_shaped}
use Rattle.desk.specs.Shape.{Shaped}
use Rattle.desk_shape.proofs.Laws.{shape_tested}
use Rattle.desk_sound.proofs.Laws.{decides, not_shaped, not_all}
use Rattle.desk_sound.proofs.is_sound.Statement.{statement}
use Rattle.desk_sound.proofs.is_sound.Tie as tie

abbrev start : tie.Else-not-is_shaped → tie.Start
start c = c.before.before.before.before

-- past the first test
shaped : (c : tie.Else-not-is_shaped) → Shaped (start c).args.desk.now
shaped c =
    let all = are_bytes_of (start c).args.desk.now
    (λ i. omega (arith, c.shared_slice_known-2-1.given i)) in
    shape_tested _ all (passed c.is_shaped.ensures (rw c.if-not-is_shaped.false))

returns_2 : tie.Need-returns-then-desk_count
returns_2 c =
    not_all _ (start c.before.before.before).requires _ c.desk_count.ensures
    c.desk_count-2.ensures c.if-desk_count.true

returns_3 : tie.Need-returns
returns_3 c =
    let tested = c.before.before.before.before in
    c.open_desks_fit.ensures
    ∙ decides _ (start tested).requires _ (shaped tested) c.desk_count.ensures
    c.desk_count-2.ensures c.if-desk_count.false

pub is_sound_spec : {M : Type 1} → statement M
is_sound_spec =
    tie.close
    (tie.spec
    (λ c κs. search rules)
    (λ c. not_shaped _ c.requires _
    (refused c.is_shaped.ensures (rw c.if-not-is_shaped.true)))
    (λ c κs. shaped c)
    (λ c κs. sound_shaped _ (start c.before).requires)
    returns_2
    (λ c κs. (c.requires, shaped c.before.before.before))
    returns_3)
