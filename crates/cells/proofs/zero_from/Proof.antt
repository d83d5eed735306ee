-- What stands from `at` to the slice's end is all that dropping `at` bytes leaves.
use mathlib.Core.Path.{ap, ◌∙◌}
use Prim.Native.Nat.{◌-◌}
use native.Mathlib.Omega.{arith}
use borrow.Author.Rules.{rules}
use lib.ListN.{length, drop, length-drop}
use lib.Seq.{take_all}
use Rattle.memory.specs.Spans.{all_zero}
use Rattle.cells.proofs.zero_from.Statement.{statement}
use Rattle.cells.proofs.zero_from.Tie as tie

returns : tie.Need-returns
returns c =
    let args = c.args in
    c.all_zero.ensures
    ∙ ap all_zero (take_all (length args.c.now - args.at) (drop args.at args.c.now)
    (simp length-drop (omega arith)))

pub zero_from_spec : {M : Type 1} → statement M
zero_from_spec =
    tie.close
    (tie.spec
    (λ c. search rules)
    (λ c. search rules)
    (λ c. search rules)
    (λ c κs. search rules)
    returns)
