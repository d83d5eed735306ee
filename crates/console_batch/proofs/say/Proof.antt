-- What is said of the answers is within the spare memory.
use mathlib.Core.Path.{sym}
use lib.Seq.{length-take-le}
use borrow.Author.Rules.{rules}
use Rattle.console_batch.proofs.say.Statement.{statement}
use Rattle.console_batch.proofs.say.Tie as tie

within : tie.Need-slice_bounds-append-end
within c = search rules

slice_aggregate_append : tie.Need-slice_bounds-append-end-2
slice_aggregate_append c = sym (length-take-le _ _ (within c))

pub say_spec : {M : Type 1} → statement M
say_spec =
    tie.close
    (tie.spec
    (λ c κs. search rules)
    within
    slice_aggregate_append
    (λ c κs. search rules)
    (λ c. search rules)
    (λ c. search rules)
    (λ c. search rules))
