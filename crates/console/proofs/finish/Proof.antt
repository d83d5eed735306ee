-- `answer` leaves each lent memory as long as it was.
use borrow.Author.Rules.{rules}
use Rattle.console.proofs.finish.Statement.{statement}
use Rattle.console.proofs.finish.Tie as tie

abbrev answered : tie.After-say → tie.After-answer-said
answered c = c.before.before.before.before.before.before.before.before.before

pub finish_spec : {M : Type 1} → statement M
finish_spec =
    tie.close
    (tie.spec
    (λ c. search rules)
    (λ c. search rules)
    (λ c. search rules)
    (λ c κs. search rules)
    (λ c κs. search rules)
    (λ c. (answered c).answer-said.auto.hall)
    (λ c. (answered c).answer-said.auto.desk)
    (λ c. (answered c).answer-said.auto.spare)
    (λ c. (answered c).answer-said.auto.text)
    (λ c. tt))
