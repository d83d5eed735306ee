-- Seat taken, operation done, one turn less; at none left `finish` ends the transaction, as the model does.
use Prim.Native.Nat.{◌-◌}
use mathlib.Core.Path.{refl}
use borrow.Author.Rules.{rules}
use borrow.Author.Tests.{eq-eqb, ne_eqb}
use Rattle.workload_turns.specs.Turns.{unseated, turned}
use Rattle.workload_turns.proofs.turn.Statement.{statement}
use Rattle.workload_turns.proofs.turn.Tie as tie

returns : tie.Need-returns-then-turns-eq0
unfolding turned unseated
returns c h₀ d₀ s k =
    let take-seat = c.take_seat-open in
    let taken = take-seat.ensures.1 h₀ d₀ s k in
    rw (← taken.1, eq-eqb (take-seat.result.turns - 1) 0 c.if-turns-eq0.true)
    (c.finish.ensures h₀ d₀ _ (c.act.ensures h₀ d₀ _ taken.0), refl)

returns_2 : tie.Need-returns-else-turns-eq0
unfolding turned unseated
returns_2 c h₀ d₀ s k =
    let take-seat = c.take_seat-open in
    let taken = take-seat.ensures.1 h₀ d₀ s k in
    rw (← taken.1, ne_eqb (take-seat.result.turns - 1) 0 c.if-turns-eq0.false)
    (c.act.ensures h₀ d₀ _ taken.0, refl)

pub turn_spec : {M : Type 1} → statement M
turn_spec =
    tie.close
    (tie.spec
    (λ c κs. search rules)
    (λ c κs. search rules)
    (λ c. search rules)
    (λ c κs. search rules)
    (λ c. search rules)
    (λ c. search rules)
    returns
    (λ c. search rules)
    (λ c. search rules)
    returns_2)
