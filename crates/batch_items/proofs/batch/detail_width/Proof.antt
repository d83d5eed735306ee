-- By the item's kind.
use mathlib.Core.Path.{ap, ◌∙◌}
use borrow.Author.Rules.{rules}
use Rattle.model_batch.specs.Answers.{kind_width}
use Rattle.batch_items.proofs.batch.detail_width.Statement.{statement}
use Rattle.batch_items.proofs.batch.detail_width.Tie as tie

returns : tie.Need-returns
returns c x =
    c.detail_width.ensures ∙ ap kind_width (c.kind_of.ensures x)

pub detail_width_spec : {M : Type 1} → statement M
detail_width_spec = tie.close (tie.spec (λ c κs. search rules) (λ c κs. search rules) returns)
