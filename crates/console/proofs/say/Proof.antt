-- What is said is within the output, so its front has just that many bytes.
use mathlib.Core.Path.{sym}
use borrow.Author.Rules.{rules}
use lib.Seq.{length-take-le}
use Rattle.console.proofs.say.Statement.{statement}
use Rattle.console.proofs.say.Tie as tie

pub say_spec : {M : Type 1} → statement M
say_spec =
    tie.close
    (tie.spec
    (λ c. sym (length-take-le _ _ c.requires))
    (λ c κs. search rules)
    (λ c. search rules))
