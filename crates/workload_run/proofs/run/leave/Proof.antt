-- Turns left mean an open transaction, which `finish` ends; with none left the store stays as it is.
use native.Mathlib.Omega.{arith}
use borrow.Author.Rules.{rules}
use borrow.Author.Tests.{eq-eqb, ne_eqb}
use Rattle.workload_run.specs.Workload.{left}
use Rattle.workload_run.proofs.run.leave.Statement.{statement}
use Rattle.workload_run.proofs.run.leave.Tie as tie

returns : tie.Need-returns-then-seat-gt0
unfolding left
returns c h₀ d₀ s k =
    let seat = c.args.seat in
    rw (ne_eqb seat.turns 0 (λ e. omega arith)) (c.finish.ensures h₀ d₀ s k)

returns_2 : tie.Need-returns-else-seat-gt0
unfolding left
returns_2 c h₀ d₀ s k = rw (eq-eqb c.args.seat.turns 0 (omega arith)) k

pub leave_spec : {M : Type 1} → statement M
leave_spec = tie.close (tie.spec (λ c κs. search rules) (λ c. search rules) (λ c. search rules) returns returns_2)
