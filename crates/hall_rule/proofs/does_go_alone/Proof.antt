-- With nothing after it a version goes as a deletion up to which all is clear.
use borrow.Author.Rules.{rules}
use Rattle.memory.proofs.Laws.Tests.{refused, passed}
use Rattle.hall_rule.proofs.Laws.Rule.{value_stays, deletion_goes}
use Rattle.hall_rule.proofs.does_go_alone.Statement.{statement}
use Rattle.hall_rule.proofs.does_go_alone.Tie as tie

returns : tie.Need-returns-then-not-is_deletion
returns c = value_stays _ _ (refused c.is_deletion.ensures (rw c.if-not-is_deletion.true))

returns_2 : tie.Need-returns
returns_2 c =
    deletion_goes _ _ (passed c.is_deletion.ensures (rw c.if-not-is_deletion.false)) c.number_at.ensures

pub does_go_alone_spec : {M : Type 1} → statement M
does_go_alone_spec = tie.close (tie.spec (λ c κs. search rules) returns (λ c κs. search rules) returns_2)
