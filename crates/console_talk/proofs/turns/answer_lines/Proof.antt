-- What is used and said is within, no memory changes its length, and each turn uses more of the text.
use mathlib.Core.Path.{◌≡◌, refl, sym, ◌∙◌}
use Prim.Native.Nat.{ℕ, ◌-◌, ◌≤◌, ◌<◌, zero-le}
use native.Mathlib.Omega.{arith}
use lib.ListN.{length}
use Rattle.text_lines.specs.declared.Turn.{Turn}
use Rattle.text_lines.specs.Held.{Answered}
use Rattle.console_talk.proofs.turns.answer_lines.Statement.{statement}
use Rattle.console_talk.proofs.turns.answer_lines.Tie as tie

abbrev invariant_loop : tie.invariant-loop-done
invariant_loop text hall₀ desk₀ spare₀ out₀ done₀ hall desk spare out done =
    Answered (length text) (length out) done
    × ((length hall ≡ length hall₀)
    × ((length desk ≡ length desk₀) × ((length spare ≡ length spare₀) × (length out ≡ length out₀))))

abbrev decreases_loop : tie.decreases-loop-done
decreases_loop text hall₀ desk₀ spare₀ out₀ done₀ hall desk spare out done = length text - done.used

-- facts are named all through, since a search of all that is known here takes hundreds of megabytes

in_room : {text a b : ℕ} {t : Turn} → a ≡ b → Answered text a t → Answered text b t
in_room e h = rw e at h

less : (text a b : ℕ) → a ≤ b → (b ≡ a → ⊥) → b ≤ text → text - b < text - a
less text a b h n u = omega arith

-- a turn's answer, and the loop's head before it
abbrev answered : tie.After-struct_known-in-loop-done-2-1 invariant_loop decreases_loop → tie.After-answer_next-next invariant_loop decreases_loop
answered c = c.before.before.before.before.before.before.before.before.before.before

abbrev head : tie.After-answer_next-next invariant_loop decreases_loop → tie.At-loop-done invariant_loop decreases_loop
head c = c.before.before.before.before.before.before.before

loop_holds : tie.Need-loop-done-init invariant_loop decreases_loop
loop_holds c = (record { used = zero-le; said = zero-le }, (refl, (refl, (refl, refl))))

answer_next_requires : tie.Need-answer_next-next-requires invariant_loop decreases_loop
answer_next_requires c κs = c.loop-done.invariant.0

loop_less : tie.Need-loop-done-smaller invariant_loop decreases_loop
loop_less c =
    let at-answer = (answered c.before).answer_next-next.ensures in
    less _ _ _ at-answer.0 c.if-next-done.false at-answer.1.used

loop_again : tie.Need-loop-done-preserved invariant_loop decreases_loop
loop_again c =
    let at-answer = answered c.before in
    let kept = at-answer.answer_next-next.auto in
    let inv = (head at-answer).loop-done.invariant.1 in (
      in_room (sym kept.out) at-answer.answer_next-next.ensures.1,
      (
        kept.hall ∙ inv.0,
        (
          kept.desk ∙ inv.1.0,
          (kept.spare ∙ inv.1.1.0, kept.out ∙ inv.1.1.1),
        ),
      ),
    )

returns : tie.Need-returns-after-loop-done invariant_loop decreases_loop
returns c = let inv = c.loop-done.invariant in in_room inv.1.1.1.1 inv.0

returns_2 : tie.Need-returns-then-next-done invariant_loop decreases_loop
returns_2 c = let inv = (head (answered c.before)).loop-done.invariant in in_room inv.1.1.1.1 inv.0

pub answer_lines_spec : {M : Type 1} → statement M
answer_lines_spec =
    tie.close
    (tie.spec
    invariant_loop
    decreases_loop
    loop_holds
    answer_next_requires
    loop_less
    loop_again
    (λ c. c.loop-done.invariant.1.0)
    (λ c. c.loop-done.invariant.1.1.0)
    (λ c. c.loop-done.invariant.1.1.1.0)
    (λ c. c.loop-done.invariant.1.1.1.1)
    returns
    (λ c.
    let at-answer = answered c.before in
    at-answer.answer_next-next.auto.hall ∙ (head at-answer).loop-done.invariant.1.0)
    (λ c.
    let at-answer = answered c.before in
    at-answer.answer_next-next.auto.desk ∙ (head at-answer).loop-done.invariant.1.1.0)
    (λ c.
    let at-answer = answered c.before in
    at-answer.answer_next-next.auto.spare ∙ (head at-answer).loop-done.invariant.1.1.1.0)
    (λ c.
    let at-answer = answered c.before in
    at-answer.answer_next-next.auto.out ∙ (head at-answer).loop-done.invariant.1.1.1.1)
    returns_2)
