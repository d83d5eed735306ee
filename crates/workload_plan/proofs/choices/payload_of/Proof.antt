-- The four bytes are written as the spec writes them: quotients, the highest byte first.
use mathlib.Core.Path.{refl}
use borrow.Author.Rules.{rules}
use Rattle.workload_plan.specs.Choices.{payload_of}
use Rattle.workload_plan.proofs.choices.payload_of.Statement.{statement}
use Rattle.workload_plan.proofs.choices.payload_of.Tie as tie

pub payload_of_spec : {M : Type 1} → statement M
unfolding payload_of
payload_of_spec =
    tie.close
    (tie.spec
    (λ c. search rules)
    (λ c. search rules)
    (λ c. search rules)
    (λ c. search rules)
    (λ c. refl))
