-- `parse` reads the first word and `key` the rest; either may be bad, and the key is in the spare memory.
use native.Mathlib.Omega.{arith}
use Rattle.console_arguments.proofs.Laws.Arguments.{number_at, bytes_at_lem}
use Rattle.text_hex.proofs.Laws.Hex.{count_within}
use borrow.Author.Rules.{rules}
use Rattle.console_arguments.specs.Arguments.{key_said, start_and_key}
use Rattle.console_arguments.proofs.start_and_key.Statement.{statement}
use Rattle.console_arguments.proofs.start_and_key.Tie as tie

returns : tie.Need-returns-in_default
unfolding start_and_key
returns c =
    record {
      says = rw (number_at c.parse.ensures c.first.ensures c.in_default.is);
      within = tt;
    }

returns_2 : tie.Need-returns-in_default-key
unfolding start_and_key
returns_2 c =
    let number = number_at c.parse.ensures c.first.ensures c.in-Number.is in
    record {
      says = rw (
        number,
        bytes_at_lem key_said c.key.ensures c.rest.ensures c.in_default-key.is,
      );
      within = tt;
    }

returns_3 : tie.Need-returns
unfolding start_and_key
returns_3 c =
    let number = number_at c.parse.ensures c.first.ensures c.in-Number.is in
    let key = bytes_at_lem key_said c.key.ensures c.rest.ensures
    c.in-Count.is in
    record {
      says = rw (number, key);
      within = omega (arith, count_within c.key.ensures c.in-Count.is);
    }

pub start_and_key_spec : {M : Type 1} → statement M
start_and_key_spec =
    tie.close
    (tie.spec
    (λ c κs. search rules)
    (λ c κs. search rules)
    (λ c. search rules)
    (λ c. search rules)
    returns
    (λ c κs. search rules)
    (λ c κs. search rules)
    (λ c. search rules)
    (λ c. search rules)
    (λ c. search rules)
    returns_2
    (λ c. search rules)
    returns_3)
