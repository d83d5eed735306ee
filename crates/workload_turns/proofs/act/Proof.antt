-- A writer's key and payload are bytes, so its put is the model's; a read changes nothing.
use mathlib.Core.Path.{refl}
use borrow.Author.Rules.{rules}
use borrow.Author.Tests.{lt-ltb, le-ltb}
use Rattle.model.specs.History.{act_in_bytes, in_bytes, is_commit}
use Rattle.model.proofs.Cases.{and_intro}
use Rattle.workload_plan.specs.Choices.{key_of}
use Rattle.workload_turns.specs.Turns.{drawn_call}
use Rattle.workload_turns.proofs.Laws.Holding.{holding_desk, holding_read}
use Rattle.workload_turns.proofs.Laws.Turns.{key_in_bytes, payload_in_bytes}
use Rattle.workload_turns.proofs.act.Statement.{statement}
use Rattle.workload_turns.proofs.act.Tie as tie

returns : tie.Need-returns-then-c-writers
unfolding drawn_call in_bytes act_in_bytes is_commit
returns c h₀ d₀ s k =
    let args = c.args in
    let written = rw (c.key_of-key.ensures, c.payload_of-payload.ensures)
    at c.put.ensures.desk in
    rw (lt-ltb args.c.worker args.writers c.if-c-writers.true)
    (holding_desk k args.start.0 _
    (and_intro (key_in_bytes args.c.key) (payload_in_bytes args.c.payload)) refl written)

returns_2 : tie.Need-returns-else-c-writers
unfolding drawn_call
returns_2 c h₀ d₀ s k =
    let args = c.args in
    rw (le-ltb args.c.worker args.writers c.if-c-writers.false)
    (holding_read k args.start.0 (key_of args.c.key))

pub act_spec : {M : Type 1} → statement M
act_spec =
    tie.close
    (tie.spec
    (λ c κs. search rules)
    (λ c κs. search rules)
    (λ c. search rules)
    (λ c. search rules)
    (λ c κs. search rules)
    (λ c. search rules)
    (λ c κs. search rules)
    (λ c. search rules)
    returns
    (λ c. search rules)
    returns_2)
