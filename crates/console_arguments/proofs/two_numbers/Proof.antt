-- `parse` reads the first word and then the rest; the first of them that is no number makes the line bad.
use Rattle.console_arguments.proofs.Laws.Arguments.{number_at}
use borrow.Author.Rules.{rules}
use Rattle.console_arguments.specs.Arguments.{two_numbers}
use Rattle.console_arguments.proofs.two_numbers.Statement.{statement}
use Rattle.console_arguments.proofs.two_numbers.Tie as tie

returns : tie.Need-returns-in_default
unfolding two_numbers
returns c =
    rw (number_at c.parse.ensures c.first.ensures c.in_default.is)

returns_2 : tie.Need-returns-in_default-parse
unfolding two_numbers
returns_2 c =
    rw (
      number_at c.parse.ensures c.first.ensures
          c.in-Number.is,
      number_at c.parse-2.ensures c.rest.ensures c.in_default-parse.is,
    )

returns_3 : tie.Need-returns
unfolding two_numbers
returns_3 c =
    rw (
      number_at c.parse.ensures c.first.ensures
          c.in-Number.is,
      number_at c.parse-2.ensures c.rest.ensures c.in-Number-parse.is,
    )

pub two_numbers_spec : {M : Type 1} → statement M
two_numbers_spec =
    tie.close
    (tie.spec
    (λ c κs. search rules)
    (λ c κs. search rules)
    (λ c. search rules)
    (λ c. search rules)
    returns
    (λ c κs. search rules)
    (λ c κs. search rules)
    (λ c. search rules)
    (λ c. search rules)
    returns_2
    returns_3)
