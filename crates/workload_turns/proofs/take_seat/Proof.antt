-- With no turns left a transaction begins and gets four; with some left, seat and store stay.
use mathlib.Core.Path.{refl, ap, ◌∙◌}
use native.Mathlib.Omega.{arith}
use borrow.Author.Rules.{rules}
use borrow.Author.Tests.{eq-eqb, ne_eqb}
use Rattle.model.specs.Calls.{begin}
use Rattle.model.specs.History.{in_bytes}
use Rattle.workload_turns.specs.Turns.{turn_limit, start_in, seated}
use Rattle.workload_turns.proofs.Laws.Holding.{holding_call}
use Rattle.workload_turns.proofs.Laws.Turns.{answer_is}
use Rattle.workload_turns.proofs.take_seat.Statement.{statement}
use Rattle.workload_turns.proofs.take_seat.Tie as tie

returns : tie.Need-returns-then-seat-eq0
unfolding seated in_bytes
returns c =
    let begin-ensures = c.begin-begun.ensures in (
      omega arith,
      λ h₀ d₀ s k.
          let f = c.start_of-start.ensures ∙ ap start_in (begin-ensures.answer ∙ answer_is k begin) in
          rw (eq-eqb c.args.seat.turns 0 c.if-seat-eq0.true) (
            holding_call k begin refl begin-ensures.hall begin-ensures.desk,
            λ j. record { start = record { 0 = f j }; turns = turn_limit },
          ),
    )

returns_2 : tie.Need-returns
unfolding seated
returns_2 c = (
  omega arith,
  λ h₀ d₀ s k. rw (ne_eqb c.args.seat.turns 0 c.if-seat-eq0.false)
      (k, refl),
)

pub take_seat_spec : {M : Type 1} → statement M
take_seat_spec =
    tie.close
    (tie.spec (λ c κs. search rules) (λ c κs. search rules) (λ c. search rules) (λ c. search rules) returns returns_2)
