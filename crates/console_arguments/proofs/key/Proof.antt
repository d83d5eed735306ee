-- Without a quote `decode` reads the text, behind one `put_word` what is left of it.
use borrow.Author.Rules.{rules}
use Rattle.console_arguments.proofs.Laws.Arguments.{quoted_long, key_hex, key_letters}
use Rattle.console_arguments.proofs.key.Statement.{statement}
use Rattle.console_arguments.proofs.key.Tie as tie

pub key_spec : {M : Type 1} → statement M
key_spec =
    tie.close
    (tie.spec
    (λ c κs. search rules)
    (λ c κs. search rules)
    (λ c. search rules)
    (λ c. search (rules, key_hex))
    (λ c. search (rules, quoted_long))
    (λ c. search (rules, quoted_long))
    (λ c. search rules)
    (λ c κs. search rules)
    (λ c. search rules)
    (λ c. search (rules, key_letters)))
