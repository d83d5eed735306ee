-- The bytes come from the last one down, so the number so far is that of the field's end.
use Rattle.std.proofs.Common.{◌≡◌, ℕ, ◌-◌, length, drop, refl, sym, ap, ◌∙◌, arith}
use Rattle.std.proofs.lemmas.Iterator.Adapters.{YieldsList-from_rev_slice}
use Rattle.std.proofs.lemmas.Iterator.Consumers.{YieldsList-turn, YieldsList-end}
use Rattle.std.proofs.lemmas.List.{length-reverse}
use Rattle.model.specs.Bytes.{num}
use Rattle.dump_fields.proofs.Laws.Numbers.{num_end, said_long, said_short, turn_fits, turn_number}
use Rattle.dump_fields.proofs.machine.number.Goals as goal

pub returns-then-field-gt-NUMBER_WIDTH : goal.returns-then-field-gt-NUMBER_WIDTH
returns-then-field-gt-NUMBER_WIDTH c = sym (said_long c.args.field.now c.if-field-gt-NUMBER_WIDTH.true)

pub loop-b-init : goal.loop-b-init
loop-b-init c =
    let field = c.args.field.now in
    (sym (num_end field (length field - 0) (omega arith)), omega arith)

pub overflow_mul-n : goal.overflow_mul-n
overflow_mul-n c =
    let loop = c.loop-b in
    let t = YieldsList-turn (YieldsList-from_rev_slice c.args.field.now cc) loop.yielded _ loop.yielded_by _ _ c.in-Some.b c.in-Some.is c.next.ensures.steps in
    record { fits = (turn_fits c.args.field.now _ loop.n _ t (λ i. omega (arith, c.type_inv.field i)) (omega arith) loop.invariant.1).0 }

pub overflow_add-n : goal.overflow_add-n
overflow_add-n c =
    let loop = c.loop-b in
    let t = YieldsList-turn (YieldsList-from_rev_slice c.args.field.now cc) loop.yielded _ loop.yielded_by _ _ c.in-Some.b c.in-Some.is c.next.ensures.steps in
    record { fits = rw c.from.ensures (turn_fits c.args.field.now _ loop.n _ t (λ i. omega (arith, c.type_inv.field i)) (omega arith) loop.invariant.1).1 }

pub loop-b-preserved : goal.loop-b-preserved
loop-b-preserved c =
    let loop = c.loop-b in
    let t = YieldsList-turn (YieldsList-from_rev_slice c.args.field.now cc) loop.yielded _ loop.yielded_by _ _ c.in-Some.b c.in-Some.is c.next.ensures.steps in
    rw c.from.ensures (turn_number c.args.field.now _ loop.n _ t (λ i. omega (arith, c.type_inv.field i)) loop.yielded c.in-Some.b refl loop.invariant.0 loop.invariant.1)

pub returns : goal.returns
returns c =
    let field = c.args.field.now in
    let loop = c.loop-b in
    let e = YieldsList-end (YieldsList-from_rev_slice field cc) loop.yielded _ loop.yielded_by _ _ c.in-None.is c.next.ensures.steps in
    let z : length field - length loop.yielded ≡ 0 = omega (arith, e.1, length-reverse field) in
    loop.invariant.0 ∙ ap (λ (k : ℕ). num (drop k field)) z ∙ sym (said_short field (omega arith))
