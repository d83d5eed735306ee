-- The tests stand in the order of the refusals, and a batch that passes them is made whole.
use mathlib.Core.Path.{◌≡◌}
use mathlib.Core.Bool.{true}
use native.Mathlib.Omega.{arith}
use borrow.Author.Rules.{rules}
use Rattle.memory.proofs.Laws.Tests.{refused, passed}
use Rattle.bridge.specs.Store.{are_sound}
use Rattle.batch.proofs.Laws.Whole.{found_wrong, found_items, not_sound, wrong_there, too_short, ready, all_done}
use Rattle.batch.proofs.batch.Statement.{statement}
use Rattle.batch.proofs.batch.Tie as tie

abbrev start : tie.After-are_sound → tie.Start
start c = c.before.before.before.before.before

abbrev test : tie.After-check → tie.After-are_sound
test c = c.before.before.before

abbrev check : tie.In-Items → tie.After-check
check c = c.before.before

sound : (c : tie.After-check) → let s = (start (test c)).args in are_sound s.hall.now s.desk.now ≡ true
sound c =
    passed (test c).are_sound.ensures (rw c.if-not-are_sound.false)

returns : tie.Need-returns-then-not-are_sound
returns c = not_sound _ _ _ _ (refused c.are_sound.ensures (rw c.if-not-are_sound.true))

returns_2 : tie.Need-returns-then-out-width
returns_2 c =
    let a = found_items _ _ (check c.before).check.ensures c.in-Items.is in
    too_short _ _ _ _ (sound (check c.before)) a c.if-out-width.true

piece_requires : tie.Need-piece-requires
piece_requires c κs =
    let a = found_items _ _ (check c.before.before.before.before).check.ensures c.in-Items.is in
    omega (arith, a.few)

make_records_requires : tie.Need-make_records-requires
make_records_requires c κs =
    let checked = check c.before.before.before.before.before.before in
    let a = found_items _ _ checked.check.ensures c.in-Items.is in
    ready _ _ _ _ (sound checked) a c.piece.ensures (omega (arith, c.if-out-width.false))

returns_3 : tie.Need-returns-in-Wrong
returns_3 c =
    rw c.wrong_at.ensures
    (wrong_there _ _ _ _ (sound c.before.before.before) (found_wrong _ _ c.check.ensures c.in-Wrong.is))

returns_4 : tie.Need-returns-else-out-width
returns_4 c =
    let checked = check c.before.before.before.before.before.before.before.before.before.before.before.before.before in
    let a = found_items _ _ checked.check.ensures c.in-Items.is in
    all_done _ _ _ _ (sound checked) a (omega (arith, c.if-out-width.false)) c.make_records.ensures

pub batch_spec : {M : Type 1} → statement M
batch_spec =
    tie.close
    (tie.spec
    (λ c κs. search rules)
    (λ c. search rules)
    (λ c. search rules)
    returns
    (λ c. search rules)
    (λ c κs. search rules)
    (λ c. search rules)
    (λ c κs. search rules)
    (λ c. search rules)
    (λ c. search rules)
    (λ c. search rules)
    returns_2
    (λ c. search rules)
    piece_requires
    make_records_requires
    (λ c. search rules)
    (λ c. search rules)
    returns_3
    (λ c. search rules)
    (λ c. search rules)
    (λ c. search rules)
    returns_4)
