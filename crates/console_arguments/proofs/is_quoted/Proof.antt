-- A text without bytes has no quote; of any other the first byte tells.
use borrow.Author.Rules.{rules}
use Rattle.console_arguments.proofs.Laws.Arguments.{quoted_none, quoted_some}
use Rattle.console_arguments.proofs.is_quoted.Statement.{statement}
use Rattle.console_arguments.proofs.is_quoted.Tie as tie

pub is_quoted_spec : {M : Type 1} → statement M
is_quoted_spec =
    tie.close
    (tie.spec
    (λ c. quoted_none c.args.text.now c.if-text-eq0.true)
    (λ c. search rules)
    (λ c. quoted_some c.args.text.now c.if-text-eq0.false))
