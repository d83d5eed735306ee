-- The next number is near enough, or else the version goes alone.
use native.Mathlib.Omega.{arith}
use borrow.Author.Rules.{rules}
use Rattle.hall.specs.Layout.{versions_in}
use Rattle.hall.specs.Tables.{version_at}
use Rattle.hall_rule.proofs.Laws.Rule.{goes_next, goes_itself}
use Rattle.hall_rule.proofs.goes_within.Statement.{statement}
use Rattle.hall_rule.proofs.goes_within.Tie as tie

returns : tie.Need-returns-then-next-reached
returns c =
    let a = c.args in
    goes_next a.next a.reached a.clear (version_at a.j (versions_in a.m.now)) (omega arith)

returns_2 : tie.Need-returns
returns_2 c =
    let a = c.args in
    goes_itself a.next a.reached a.clear (version_at a.j (versions_in a.m.now)) (omega arith)
    c.does_go_alone.ensures

pub goes_within_spec : {M : Type 1} → statement M
goes_within_spec = tie.close (tie.spec returns (λ c κs. search rules) returns_2)
