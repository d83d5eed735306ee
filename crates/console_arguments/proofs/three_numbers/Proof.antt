-- `parse` reads the first word, `two_numbers` the rest; the first of them that is bad makes the line bad.
use borrow.Author.Rules.{rules}
use Rattle.console_arguments.specs.Arguments.{three_numbers}
use Rattle.console_arguments.proofs.Laws.Arguments.{number_at, two_at}
use Rattle.console_arguments.proofs.three_numbers.Statement.{statement}
use Rattle.console_arguments.proofs.three_numbers.Tie as tie

returns : tie.Need-returns-in_default
unfolding three_numbers
returns c =
    rw (number_at c.parse.ensures c.first.ensures c.in_default.is)

returns_2 : tie.Need-returns-in_default-two_numbers
unfolding three_numbers
returns_2 c =
    rw (
      number_at c.parse.ensures c.first.ensures
          c.in-Number.is,
      two_at c.two_numbers.ensures c.rest.ensures c.in_default-two_numbers.is,
    )

returns_3 : tie.Need-returns
unfolding three_numbers
returns_3 c =
    rw (
      number_at c.parse.ensures c.first.ensures
          c.in-Number.is,
      two_at c.two_numbers.ensures c.rest.ensures c.in-Both.is,
    )

pub three_numbers_spec : {M : Type 1} → statement M
three_numbers_spec =
    tie.close
    (tie.spec
    (λ c κs. search rules)
    (λ c κs. search rules)
    (λ c. search rules)
    (λ c. search rules)
    returns
    (λ c κs. search rules)
    (λ c κs. search rules)
    (λ c. search rules)
    (λ c. search rules)
    returns_2
    returns_3)
