-- Of all answers only a refusal by 10 or 11 lacks room.
use borrow.Author.Rules.{rules}
use borrow.Author.Tests.{eq-eqb, ne_eqb}
use Rattle.model.specs.Calls.{refusal}
use Rattle.workload_turns.proofs.lacks_room.Statement.{statement}
use Rattle.workload_turns.proofs.lacks_room.Tie as tie

returns : tie.Need-returns-then-n-eq10
unfolding refusal
returns c ks =
    let number_of_lem = c.number_of-n in
    rw (c.in-Refused.is, ← number_of_lem.ensures, eq-eqb number_of_lem.result 10 c.if-n-eq10.true)

returns_5 : tie.Need-returns-else-n-eq10
unfolding refusal
returns_5 c ks =
    let number_of_lem = c.number_of-n in
    rw (c.in-Refused.is, ← number_of_lem.ensures, ne_eqb number_of_lem.result 10 c.if-n-eq10.false)

pub lacks_room_spec : {M : Type 1} → statement M
unfolding refusal
lacks_room_spec =
    tie.close
    (tie.spec
    (λ c. search rules)
    (λ c. search rules)
    (λ c. search rules)
    (λ c. search rules)
    (λ c κs. search rules)
    returns
    (λ c ks. rw c.in-As.is)
    (λ c ks. rw c.in-Closed.is)
    (λ c ks. rw c.in-Conflict.is)
    returns_5)
