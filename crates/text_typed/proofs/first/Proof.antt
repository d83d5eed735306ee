-- The bytes in front that are no blanks, cut where `run` counts to.
use mathlib.Core.Path.{sym}
use borrow.Author.Rules.{rules}
use lib.Seq.{length-take-le}
use Rattle.text_typed.specs.Typed.{first}
use Rattle.text_typed.proofs.first.Statement.{statement}
use Rattle.text_typed.proofs.first.Tie as tie

pub first_spec : {M : Type 1} → statement M
unfolding first
first_spec =
    tie.close
    (tie.spec
    (λ c κs. search rules)
    (λ c. sym (length-take-le _ _ c.run-n.ensures.within))
    (λ c. rw c.run-n.ensures.count))
