-- What is clear from 0 on tells, or else what is so from this version on.
use native.Mathlib.Omega.{arith}
use borrow.Author.Rules.{rules}
use Rattle.hall.specs.Layout.{versions_in}
use Rattle.hall.specs.Tables.{version_at}
use Rattle.hall_rule.proofs.Laws.Rule.{clear_first, told_goes}
use Rattle.hall_rule.proofs.does_go.Statement.{statement}
use Rattle.hall_rule.proofs.does_go.Tie as tie

reach_requires : tie.Need-reach-high-requires
reach_requires c κs =
    let pre = c.requires in
    let v = version_at c.args.j (versions_in c.args.m.now) in
    record {
      shaped = pre.0.shaped;
      below = omega arith;
      upward = pre.1.upward;
      clear = clear_first pre.1 v;
    }

returns : tie.Need-returns
returns c =
    told_goes c.requires.1 _ _ c.next_number-next.ensures c.reach-high.ensures
    c.goes_within.ensures

pub does_go_spec : {M : Type 1} → statement M
does_go_spec =
    tie.close (tie.spec (λ c κs. search rules) reach_requires (λ c κs. search rules) returns)
