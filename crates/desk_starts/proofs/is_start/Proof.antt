-- Every open start lies from `least` to `greatest`: a number outside is none, and one inside is sought.
use mathlib.Core.Path.{refl, sym}
use native.Mathlib.Omega.{arith}
use borrow.Author.Rules.{rules}
use borrow.Author.Tests.{leb-true}
use Rattle.model.proofs.Cases.{and_left}
use Rattle.memory.proofs.Laws.Tests.{refused, passed}
use Rattle.desk.proofs.Laws.Desks.{walk_start}
use Rattle.desk_starts.proofs.Laws.{outside}
use Rattle.desk_starts.proofs.is_start.Statement.{statement}
use Rattle.desk_starts.proofs.is_start.Tie as tie

is_start_from_requires : tie.Need-is_start_from-requires
is_start_from_requires c κs =
    let p = c.requires in
    let w = passed c.is_within.ensures (rw c.if-not-is_within.false) in
    let l = leb-true c.args.least c.args.number (and_left _ _ w) in
    record {
      shaped = p.0;
      bits = (walk_start p.0 refl c.occupied.ensures).bits;
      positive = omega (arith, p.1.positive);
    }

returns : tie.Need-returns-then-not-is_within
returns c =
    sym (outside _ _ c.requires.1
    (refused c.is_within.ensures (rw c.if-not-is_within.true)))

pub is_start_spec : {M : Type 1} → statement M
is_start_spec =
    tie.close
    (tie.spec
    (λ c κs. search rules)
    returns
    (λ c κs. search rules)
    is_start_from_requires
    (λ c. search rules))
