-- Each `if` is one of the four tests of an open desk: the first that fails decides, and past the last all passed.
use mathlib.Core.Path.{sym}
use native.Mathlib.Omega.{arith}
use borrow.Author.Rules.{rules}
use borrow.Author.Tests.{le-leb, lt-leb}
use Rattle.model.proofs.Cases.{all_every}
use Rattle.memory.proofs.Laws.Tests.{refused, passed, every_fails}
use Rattle.hall.proofs.Laws.Sound.{hall_counter, sound_shaped}
use Rattle.desk.proofs.Laws.Desks.{walk_on}
use Rattle.desk_starts.proofs.Laws.{step_from}
use Rattle.desk_sound.proofs.open_fits.Statement.{statement}
use Rattle.desk_sound.proofs.open_fits.Tie as tie

is_start_from_requires : tie.Need-is_start_from-requires
is_start_from_requires c κs =
    let p = c.requires in
    record {
      shaped = p.shaped;
      bits = (walk_on (step_from p.shaped p.bits) p.below).bits;
      positive = omega arith;
    }

returns_5 : tie.Need-returns
returns_5 c =
    let e = c.start_at-start.ensures in
    sym (all_every _ (
      rw (← e) (le-leb _ _ (omega arith)),
      (
        rw (← e, hall_counter, ← c.counter.ensures) (le-leb _ _ c.if-counter-start.false),
        (
          rw (← e, ← c.is_start_from.ensures, c.if-is_start_from.false),
          (passed c.writes_ascend.ensures (rw c.if-not-writes_ascend.false), tt),
        ),
      ),
    ))

pub open_fits_spec : {M : Type 1} → statement M
open_fits_spec =
    tie.close
    (tie.spec
    (λ c κs. search rules)
    (λ c. every_fails _ 0 (rw (← c.start_at-start.ensures) (lt-leb _ _ (omega arith))))
    (λ c κs. sound_shaped _ c.requires.hall)
    (λ c. every_fails _ 1 (rw (
      ← c.start_at-start.ensures,
      hall_counter,
      ← c.counter.ensures,
    ) (lt-leb _ _ c.if-counter-start.true)))
    (λ c. search rules)
    is_start_from_requires
    (λ c. every_fails _ 2 (rw (
      ← c.start_at-start.ensures,
      ← c.is_start_from.ensures,
      c.if-is_start_from.true,
    )))
    (λ c κs. search rules)
    (λ c. every_fails _ 3 (refused c.writes_ascend.ensures (rw c.if-not-writes_ascend.true)))
    returns_5)
