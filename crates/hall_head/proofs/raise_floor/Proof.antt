-- The larger of the two stands in the header afterwards: stored, or there before.
use mathlib.Core.Path.{◌≡◌}
use Prim.Native.Nat.{max}
use native.Mathlib.Omega.{arith}
use borrow.Author.Rules.{rules}
use Rattle.hall.specs.Layout.{hall_in}
use Rattle.hall.proofs.Laws.Puts.{put_floor}
use Rattle.hall.proofs.Laws.Sound.{sound_shaped, hall_floor, put_hall_floor}
use Rattle.hall_head.proofs.raise_floor.Statement.{statement}
use Rattle.hall_head.proofs.raise_floor.Tie as tie

returns : tie.Need-returns-then-n-floor
returns c =
    let m = c.args.m.now in
    let n = c.args.n in
    let e : max (hall_in m).floor n ≡ (hall_in m).floor = omega (arith, c.if-n-floor.true, c.floor.ensures, hall_floor m) in
    rw e c.requires.same

returns_2 : tie.Need-returns
returns_2 c =
    let m = c.args.m.now in
    let n = c.args.n in
    let e : max (hall_in m).floor n ≡ n = omega (arith, c.if-n-floor.false, c.floor.ensures, hall_floor m) in
    rw e (put_hall_floor _ c.requires _ (put_floor _ (sound_shaped _ c.requires) _ c.write64.ensures))

pub raise_floor_spec : {M : Type 1} → statement M
raise_floor_spec =
    tie.close
    (tie.spec
    (λ c κs. sound_shaped _ c.requires)
    (λ c. search rules)
    returns
    (λ c κs. search rules)
    (λ c. search rules)
    returns_2)
