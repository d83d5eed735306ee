-- The digits before i say n, which fits 64 bits; going on from n with the rest says what the whole text says.
use Prim.Native.Nat.{◌-◌, ◌^◌, ◌≤◌, ◌<◌}
use mathlib.Core.Path.{◌≡◌, refl, sym, ◌∙◌}
use native.Mathlib.Omega.{arith}
use borrow.Author.Rules.{rules}
use lib.ListN.{length, drop}
use Rattle.text_decimals.proofs.Laws.{after, none_parsed, digit_more, digit_bad, digits_all}
use Rattle.text_decimals.proofs.parse.Statement.{statement}
use Rattle.text_decimals.proofs.parse.Tie as tie

abbrev invariant_loop : tie.invariant-loop-i
invariant_loop text n₀ i₀ n i = (i ≤ length text) × ((n < 2 ^ 64) × (after 0 text ≡ after n (drop i text)))

abbrev decreases_loop : tie.decreases-loop-i
decreases_loop text n₀ i₀ n i = length text - i

returns_2 : tie.Need-returns-in_default invariant_loop decreases_loop
returns_2 c =
    digit_bad _ _ _ c.loop-i.invariant.1.1 c.loop-i-test.true c.with_digit.ensures
    c.in_default.is

loop_again : tie.Need-loop-i-preserved invariant_loop decreases_loop
loop_again c =
    let more = digit_more _ _ _ c.loop-i.invariant.1.1 c.loop-i-test.true c.with_digit.ensures in
    (omega arith, (omega arith, more ∙ rw c.in-Number.is))

pub parse_spec : {M : Type 1} → statement M
parse_spec =
    tie.close
    (tie.spec
    invariant_loop
    decreases_loop
    (λ c. sym (none_parsed _ (omega arith)))
    (λ c. (omega arith, (omega arith, refl)))
    (λ c. omega arith)
    (λ c κs. search rules)
    (λ c. search rules)
    (λ c. search rules)
    returns_2
    (λ c. omega arith)
    (λ c. omega arith)
    loop_again
    (λ c. search (rules, digits_all)))
