-- `piece` gives the bytes from `from` up to `to`, and `all_zero` says whether they are zeros.
use mathlib.Core.Path.{ap, ◌∙◌}
use borrow.Author.Rules.{rules}
use Rattle.memory.specs.Spans.{all_zero}
use Rattle.hall_shape.proofs.zero_between.Statement.{statement}
use Rattle.hall_shape.proofs.zero_between.Tie as tie

pub zero_between_spec : {M : Type 1} → statement M
zero_between_spec =
    tie.close
    (tie.spec
    (λ c. search rules)
    (λ c κs. search rules)
    (λ c κs. search rules)
    (λ c. c.all_zero.ensures ∙ ap all_zero c.piece.ensures))
