-- The dump's length is at most the output's, so that front of the output can be written.
use mathlib.Core.Path.{sym, ap, ◌∙◌}
use native.Mathlib.Omega.{arith}
use borrow.Author.Rules.{rules}
use lib.Seq.{length-take-le}
use Rattle.workload_run.specs.declared.Worked.TheVariants as work
use Rattle.workload_run.proofs.Laws.Works.{works_within}
use Rattle.workload.proofs.answer.Statement.{statement}
use Rattle.workload.proofs.answer.Tie as tie

within : tie.Need-slice_bounds-write_all-end
within c =
    let few = works_within c.workload.ensures
    (c.in-Ran.is ∙ ap work.Ran c.in-Bytes.is) in
    omega (arith, c.workload.auto.out)

slice_aggregate_write_all : tie.Need-slice_bounds-write_all-end-in-Bytes
slice_aggregate_write_all c = sym (length-take-le _ _ (within c))

pub answer_spec : {M : Type 1} → statement M
answer_spec =
    tie.close
    (tie.spec
    (λ c κs. search rules)
    (λ c. search rules)
    (λ c. search rules)
    within
    slice_aggregate_write_all
    (λ c κs. search rules)
    (λ c. search rules)
    (λ c κs. search rules)
    (λ c. search rules)
    (λ c κs. search rules)
    (λ c. search rules)
    (λ c. search rules)
    (λ c. search rules)
    (λ c. search rules)
    (λ c. search rules)
    (λ c. search rules)
    (λ c. search rules)
    (λ c. search rules)
    (λ c. search rules)
    (λ c. search rules)
    (λ c. search rules)
    (λ c. search rules))
