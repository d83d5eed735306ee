-- Where nothing is demanded nothing is right; where something is, `same` decides.
use Rattle.std.proofs.Common.{sym, rules}
use Rattle.whiteboard_page.proofs.Laws.{none_right, right_same}
use Rattle.whiteboard_page.proofs.judge.Goals as goal

pub returns-then-should-eq0 : goal.returns-then-should-eq0
returns-then-should-eq0 c = sym (none_right _ _ c.if-should-eq0.true)

pub returns-then-same : goal.returns-then-same
returns-then-same c = right_same _ _ (search rules) c.same.ensures c.if-same.true

pub returns : goal.returns
returns c = right_same _ _ (search rules) c.same.ensures c.if-same.false
