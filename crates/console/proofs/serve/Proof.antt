-- What is held is within the buffer, no memory changes its length, and each turn leaves fewer turns.
use mathlib.Core.Path.{◌≡◌, refl, sym, ◌∙◌}
use Prim.Native.Nat.{ℕ, zero-le}
use lib.ListN.{length}
use Rattle.text_lines.specs.declared.Held.{Held}
use Rattle.text_lines.specs.Held.{Within}
use Rattle.console.proofs.serve.Statement.{statement}
use Rattle.console.proofs.serve.Tie as tie

abbrev invariant_loop : tie.invariant-loop-turns
invariant_loop input hall₀ desk₀ buffer₀ spare₀ out₀ held₀ turns₀ hall desk buffer spare out held turns =
    Within (length buffer) held
    × ((length hall ≡ length hall₀)
    × ((length desk ≡ length desk₀)
    × ((length buffer ≡ length buffer₀) × ((length spare ≡ length spare₀) × (length out ≡ length out₀)))))

abbrev decreases_loop : tie.decreases-loop-turns
decreases_loop input hall₀ desk₀ buffer₀ spare₀ out₀ held₀ turns₀ hall desk buffer spare out held turns = turns

in_room : {a b : ℕ} {h : Held} → a ≡ b → Within a h → Within b h
in_room e h = rw e at h

-- a turn, and the loop's head before it
abbrev turned : tie.After-left-turns invariant_loop decreases_loop → tie.After-turn-state invariant_loop decreases_loop
turned c = c.before.before.before.before.before.before.before.before.before.before.before.before

abbrev head : tie.After-turn-state invariant_loop decreases_loop → tie.At-loop-turns invariant_loop decreases_loop
head c = c.before.before.before.before.before.before.before

loop_holds : tie.Need-loop-turns-init invariant_loop decreases_loop
loop_holds c = (record { start = zero-le; stop = zero-le }, (refl, (refl, (refl, (refl, refl)))))

left_requires : tie.Need-left-turns-requires invariant_loop decreases_loop
left_requires c κs =
    c.loop-turns-test.true

loop_again : tie.Need-loop-turns-preserved invariant_loop decreases_loop
loop_again c =
    let at_turn = turned c in
    let kept = at_turn.turn-state.auto in
    let inv = (head at_turn).loop-turns.invariant.1 in (
      in_room (sym kept.buffer) at_turn.turn-state.ensures,
      (
        kept.hall ∙ inv.0,
        (
          kept.desk ∙ inv.1.0,
          (
            kept.buffer ∙ inv.1.1.0,
            (kept.spare ∙ inv.1.1.1.0, kept.out ∙ inv.1.1.1.1),
          ),
        ),
      ),
    )

returns : tie.Need-returns invariant_loop decreases_loop
returns c = let inv = c.loop-turns.invariant in in_room inv.1.1.1.0 inv.0

pub serve_spec : {M : Type 1} → statement M
serve_spec =
    tie.close
    (tie.spec
    invariant_loop
    decreases_loop
    loop_holds
    (λ c κs. c.loop-turns.invariant.0)
    left_requires
    (λ c. c.left-turns.ensures)
    loop_again
    (λ c. c.loop-turns.invariant.1.0)
    (λ c. c.loop-turns.invariant.1.1.0)
    (λ c. c.loop-turns.invariant.1.1.1.0)
    (λ c. c.loop-turns.invariant.1.1.1.1.0)
    (λ c. c.loop-turns.invariant.1.1.1.1.1)
    returns)
