-- `judge` tells whether the answer is right, and that bit as a number is the count of right ones.
use Rattle.std.proofs.Common.{rules}
use Rattle.whiteboard_page.proofs.Laws.{as_one}
use Rattle.whiteboard_page.proofs.call.Statement.{statement}
use Rattle.whiteboard_page.proofs.call.Tie as tie

pub call_spec : {M : Type 1} → statement M
call_spec =
    tie.close
    (tie.spec
    (λ c κs. search rules)
    (λ c κs. search rules)
    (λ c. search rules)
    (λ c. rw (as_one c.judge-right.result, c.judge-right.ensures)))
