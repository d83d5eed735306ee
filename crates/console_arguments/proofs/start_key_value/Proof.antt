-- Start, key and value are read in turn; the value goes behind the key, whose bytes stay.
use mathlib.Core.Path.{sym, ◌∙◌}
use Rattle.console_arguments.proofs.Laws.Arguments.{number_at, bytes_at_lem, key_read}
use Rattle.text_hex.proofs.Laws.Hex.{count_within, stores_below}
use borrow.Author.Rules.{rules}
use Rattle.model.specs.Bytes.{part}
use Rattle.text_hex.specs.Hex.{said}
use Rattle.console_arguments.specs.Arguments.{key_said, start_key_value}
use Rattle.console_arguments.proofs.start_key_value.Statement.{statement}
use Rattle.console_arguments.proofs.start_key_value.Tie as tie

returns : tie.Need-returns-in_default
unfolding start_key_value
returns c =
    record {
      says = rw (number_at c.parse.ensures c.first.ensures c.in_default.is);
      within = tt;
    }

returns_2 : tie.Need-returns-in_default-key
unfolding start_key_value
returns_2 c =
    let number = number_at c.parse.ensures c.first.ensures c.in-Number.is in
    record {
      says = rw (
        number,
        ← c.rest-more.ensures,
        bytes_at_lem key_said c.key.ensures c.first-2.ensures c.in_default-key.is,
      );
      within = tt;
    }

returns_3 : tie.Need-returns-in_default-decode
returns_3 c =
    let key = key_read _ c.parse.ensures c.first.ensures c.in-Number.is
    c.rest-more.ensures c.first-2.ensures
    c.key.ensures c.in-Count.is in
    record {
      says = sym (key ∙ rw (bytes_at_lem said c.decode.ensures c.rest.ensures
          c.in_default-decode.is));
      within = tt;
    }

returns_4 : tie.Need-returns
unfolding part
returns_4 c =
    let key = key_read _ c.parse.ensures c.first.ensures c.in-Number.is
    c.rest-more.ensures c.first-2.ensures
    c.key.ensures c.in-Count.is in
    let value = bytes_at_lem said c.decode.ensures c.rest.ensures
    c.in-Count-decode.is in
    record {
      says = sym (key ∙ rw (value, ← stores_below c.decode.ensures));
      within = count_within c.decode.ensures c.in-Count-decode.is;
    }

pub start_key_value_spec : {M : Type 1} → statement M
start_key_value_spec =
    tie.close
    (tie.spec
    (λ c κs. search rules)
    (λ c κs. search rules)
    (λ c. search rules)
    (λ c. search rules)
    returns
    (λ c κs. search rules)
    (λ c κs. search rules)
    (λ c κs. search rules)
    (λ c. search rules)
    (λ c. search rules)
    (λ c. search rules)
    returns_2
    (λ c κs. search rules)
    (λ c κs. search rules)
    (λ c. search rules)
    (λ c. search rules)
    (λ c. search rules)
    returns_3
    (λ c. search rules)
    returns_4)
