-- The digits of the bytes from i on, stored from j on, would give the whole, and they fit.
use mathlib.Core.Path.{◌≡◌, refl, ◌∙◌}
use Prim.Native.Nat.{◌+◌, ◌*◌, ◌-◌, ◌≤◌}
use native.Mathlib.Omega.{arith}
use borrow.Author.Rules.{rules}
use lib.ListN.{length, drop, length-set}
use lib.Seq.{sets}
use Rattle.text_hex.specs.Hex.{digits}
use Rattle.text_hex.proofs.Laws.Hex.{digits_stored, store_digits}
use Rattle.text_hex.proofs.encode_pairs.Statement.{statement}
use Rattle.text_hex.proofs.encode_pairs.Tie as tie

abbrev invariant_loop : tie.invariant-loop-i
invariant_loop bytes text₀ at i₀ j₀ text i j =
    ((length text ≡ length text₀) × ((i ≤ length bytes) × (j + 2 * (length bytes - i) ≤ length text₀)))
    × (sets text j (digits (drop i bytes)) ≡ sets text₀ at (digits bytes))

abbrev decreases_loop : tie.decreases-loop-i
decreases_loop bytes text₀ at i₀ j₀ text i j = length bytes - i

loop_again : tie.Need-loop-i-preserved invariant_loop decreases_loop
loop_again c = (
  (simp length-set (omega arith), (omega arith, omega arith)),
  store_digits _ _ _ _ c.loop-i-test.true c.glyph.ensures c.glyph-in-loop-i.ensures
      ∙ c.loop-i.invariant.1,
)

pub encode_pairs_spec : {M : Type 1} → statement M
encode_pairs_spec =
    tie.close
    (tie.spec
    invariant_loop
    decreases_loop
    (λ c. ((refl, (omega arith, omega arith)), refl))
    (λ c. search rules)
    (λ c κs. omega (arith, c.shared_slice_known-in-loop-i-1.given c.loop-i.i))
    (λ c. search rules)
    (λ c. search rules)
    (λ c κs. search rules)
    (λ c. search rules)
    (λ c. simp length-set (omega arith))
    (λ c. search rules)
    (λ c. search rules)
    (λ c. search rules)
    loop_again
    (λ c. search rules)
    (λ c. digits_stored _ _ _ _ c.loop-i-test.false c.loop-i.invariant.1))
