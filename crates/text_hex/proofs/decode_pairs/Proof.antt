-- The pairs from i on, stored from n on, would give the whole: they fit, and all their digits are good.
use mathlib.Core.Path.{◌≡◌, refl, ◌∙◌}
use mathlib.Core.Bool.{true}
use Prim.Native.Nat.{◌+◌, ◌-◌, ◌/◌, ◌≤◌, ◌<◌}
use native.Mathlib.Omega.{arith}
use borrow.Author.Rules.{rules}
use lib.ListN.{length, drop, length-set}
use lib.Seq.{sets}
use Rattle.text_hex.specs.Hex.{is_pairs, pairs}
use Rattle.text_hex.proofs.Laws.Hex.{said_pairs, good_pair, store_pair, pairs_stored}
use Rattle.text_hex.proofs.decode_pairs.Statement.{statement}
use Rattle.text_hex.proofs.decode_pairs.Tie as tie

abbrev invariant_loop : tie.invariant-loop-i
invariant_loop text out₀ at i₀ n₀ out i n =
    ((length out ≡ length out₀) × ((i ≤ length text) × (n + (length text - i) / 2 ≤ length out₀)))
    × ((1 < length text - i → is_pairs (drop i text) ≡ true)
    × (sets out n (pairs (drop i text)) ≡ sets out₀ at (pairs text)))

abbrev decreases_loop : tie.decreases-loop-i
decreases_loop text out₀ at i₀ n₀ out i n = length text - i

pair_requires : tie.Need-pair-requires invariant_loop decreases_loop
pair_requires c κs =
    (good_pair c.args.text.now c.loop-i.i (omega arith)
    (c.loop-i.invariant.1.0 (omega arith))).0

loop_again : tie.Need-loop-i-preserved invariant_loop decreases_loop
loop_again c =
    let text = c.args.text.now in
    let good = good_pair text c.loop-i.i (omega arith) (c.loop-i.invariant.1.0 (omega arith)) in
    let stored = store_pair text c.loop-i.i c.loop-i.out c.loop-i.n (omega arith)
    c.pair.ensures in
    ((simp length-set (omega arith), (omega arith, omega arith)), (λ h. good.1, stored ∙ c.loop-i.invariant.1.1))

pub decode_pairs_spec : {M : Type 1} → statement M
decode_pairs_spec =
    tie.close
    (tie.spec
    invariant_loop
    decreases_loop
    (λ c. (search rules, (λ h. said_pairs _ c.requires.0 (omega arith), refl)))
    (λ c. search rules)
    (λ c. search rules)
    (λ c. search rules)
    (λ c. search rules)
    pair_requires
    (λ c. search rules)
    (λ c. search rules)
    (λ c. search rules)
    (λ c. search rules)
    loop_again
    (λ c. search rules)
    (λ c. search (rules, pairs_stored)))
