-- Each kind of place has its own answer, and a refusal is handed on as it is.
use mathlib.Core.Path.{sym, ap}
use borrow.Author.Rules.{rules}
use Rattle.hall_values.specs.declared.Placed.{Placed}
use Rattle.hall_values.specs.Places.{placed_answer}
use Rattle.hall_values.proofs.found.Statement.{statement}
use Rattle.hall_values.proofs.found.Tie as tie

returns : tie.Need-returns-in-Refused
returns c = sym (ap (λ (p : Placed). placed_answer p) c.in-Refused.is)

pub found_spec : {M : Type 1} → statement M
found_spec =
    tie.close
    (tie.spec
    (λ c. search rules)
    (λ c. search rules)
    (λ c. search rules)
    (λ c. search rules)
    returns
    (λ c. search rules)
    (λ c. search rules)
    (λ c. search rules))
