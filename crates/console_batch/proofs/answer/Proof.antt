-- The batch lies in the spare memory, what is lent as its output in the text, and there is a kind for each record.
use mathlib.Core.Path.{sym}
use native.Mathlib.Omega.{arith}
use lib.Seq.{length-take-le}
use borrow.Author.Rules.{rules}
use Rattle.console_batch.proofs.answer.Statement.{statement}
use Rattle.console_batch.proofs.answer.Tie as tie

batch_looked_at : tie.Need-slice_bounds-needs_of-end
batch_looked_at c = search rules

batch_lent : tie.Need-slice_bounds-batch-end
batch_lent c = search rules

output_lent : tie.Need-slice_bounds-batch-end-3
output_lent c = search rules

kinds_lent : tie.Need-slice_bounds-kinds-end
kinds_lent c = search rules

slice_aggregate_needs_of : tie.Need-slice_bounds-needs_of-end-2
slice_aggregate_needs_of c = sym (length-take-le _ _ (batch_looked_at c))

slice_aggregate_batch : tie.Need-slice_bounds-batch-end-2
slice_aggregate_batch c = sym (length-take-le _ _ (batch_lent c))

slice_aggregate_batch_2 : tie.Need-slice_bounds-batch-end-4
slice_aggregate_batch_2 c = sym (length-take-le _ _ (output_lent c.before))

slice_aggregate_tell : tie.Need-slice_bounds-tell-end
slice_aggregate_tell c = sym (length-take-le _ _ (kinds_lent c.before))

tell_requires : tie.Need-tell-requires
tell_requires c κs = omega (arith, slice_aggregate_tell c.before.before)

pub answer_spec : {M : Type 1} → statement M
answer_spec =
    tie.close
    (tie.spec
    batch_looked_at
    slice_aggregate_needs_of
    (λ c. search rules)
    (λ c κs. search rules)
    (λ c κs. search rules)
    batch_lent
    slice_aggregate_batch
    output_lent
    slice_aggregate_batch_2
    (λ c κs. search rules)
    kinds_lent
    slice_aggregate_tell
    tell_requires
    (λ c. search rules)
    (λ c. search rules)
    (λ c. search rules)
    (λ c. search rules)
    (λ c. search rules))
