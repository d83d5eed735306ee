-- The header's tests give the later ones what they assume; one that fails decides, and past the last all passed.
use mathlib.Core.Path.{sym}
use borrow.Author.Rules.{rules}
use borrow.Author.Tests.{lt-leb, le-leb}
use Rattle.model.proofs.Cases.{all_every}
use Rattle.memory.proofs.Laws.Tests.{refused, passed, every_fails}
use Rattle.hall.specs.Layout.{head_size}
use Rattle.hall_shape.specs.Tests.{Fits}
use Rattle.hall_shape.proofs.Laws.{head_fits}
use Rattle.hall_shape.proofs.is_shaped.Statement.{statement}
use Rattle.hall_shape.proofs.is_shaped.Tie as tie

fits : (c : tie.Else-not-head_fits) → Fits c.args.m.now
fits c = head_fits _ (passed c.head_fits.ensures (rw c.if-not-head_fits.false))

returns_6 : tie.Need-returns
returns_6 c =
    let long = le-leb head_size _ c.if-m-lt-HEAD_SIZE.false in
    let head = passed c.head_fits.ensures (rw c.if-not-head_fits.false) in
    let keys = passed c.keys_fit.ensures (rw c.if-not-keys_fit.false) in
    let payloads = passed c.payloads_fit.ensures (rw c.if-not-payloads_fit.false) in
    sym (all_every _ (long, (head, (keys, (payloads, (passed c.rests_fit.ensures (rw c.if-not-rests_fit.false), tt))))))

pub is_shaped_spec : {M : Type 1} → statement M
is_shaped_spec =
    tie.close
    (tie.spec
    (λ c. every_fails _ 0 (lt-leb head_size _ c.if-m-lt-HEAD_SIZE.true))
    (λ c κs. search rules)
    (λ c. every_fails _ 1 (refused c.head_fits.ensures (rw c.if-not-head_fits.true)))
    (λ c κs. fits c)
    (λ c. every_fails _ 2 (refused c.keys_fit.ensures (rw c.if-not-keys_fit.true)))
    (λ c κs. fits c.before.before)
    (λ c. every_fails _ 3 (refused c.payloads_fit.ensures (rw c.if-not-payloads_fit.true)))
    (λ c κs. fits c.before.before.before.before)
    (λ c. every_fails _ 4 (refused c.rests_fit.ensures (rw c.if-not-rests_fit.true)))
    returns_6)
