-- What stands before the first blank is all of a word; a word that is too long is bad, any other is copied.
use native.Mathlib.Omega.{arith}
use borrow.Author.Rules.{rules}
use Rattle.console_arguments.proofs.Laws.Arguments.{word_split, word_long, word_fits}
use Rattle.console_arguments.proofs.put_word.Statement.{statement}
use Rattle.console_arguments.proofs.put_word.Tie as tie

pub put_word_spec : {M : Type 1} → statement M
put_word_spec =
    tie.close
    (tie.spec
    (λ c κs. search rules)
    (λ c. word_split _ _ _ c.first.ensures (omega arith))
    (λ c. search (rules, word_long))
    (λ c κs. search rules)
    (λ c. search rules)
    (λ c. search (rules, word_fits)))
