-- Each of the four digits is what `last_digit` answers for its quotient.
use borrow.Author.Rules.{rules}
use Rattle.workload_plan.specs.Choices.{key_of}
use Rattle.workload_plan.proofs.choices.key_of.Statement.{statement}
use Rattle.workload_plan.proofs.choices.key_of.Tie as tie

pub key_of_spec : {M : Type 1} → statement M
unfolding key_of
key_of_spec =
    tie.close
    (tie.spec
    (λ c κs. search rules)
    (λ c κs. search rules)
    (λ c κs. search rules)
    (λ c κs. search rules)
    (λ c. cc))
