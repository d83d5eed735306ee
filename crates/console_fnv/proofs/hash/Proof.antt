-- Hashing on from h over the bytes from i on gives the whole hash; at the end none are left.
use mathlib.Core.Path.{◌≡◌, refl}
use Prim.Native.Nat.{◌-◌, ◌≤◌}
use native.Mathlib.Numerals.{add-one}
use native.Mathlib.Omega.{arith}
use borrow.Author.Rules.{rules}
use lib.ListN.{length, drop, drop_of_length-le}
use lib.Seq.{drop-cons}
use Rattle.console_fnv.specs.Fnv.{hash_from, hash_of}
use Rattle.console_fnv.proofs.hash.Statement.{statement}
use Rattle.console_fnv.proofs.hash.Tie as tie

abbrev invariant_loop : tie.invariant-loop-i
invariant_loop s h₀ i₀ h i = (i ≤ length s) × (hash_from h (drop i s) ≡ hash_of s)

abbrev decreases_loop : tie.decreases-loop-i
decreases_loop s h₀ i₀ h i = length s - i

loop_again : tie.Need-loop-i-preserved invariant_loop decreases_loop
unfolding hash_from
loop_again c =
    let s = c.args.s.now in (
      omega arith,
      rw (c.wrapping_mul-h.ensures, c.wide.ensures, add-one c.loop-i.i)
          (rw (drop-cons s c.loop-i.i 0 (omega arith)) at c.loop-i.invariant.1),
    )

returns : tie.Need-returns invariant_loop decreases_loop
unfolding hash_from
returns c =
    rw (drop_of_length-le c.args.s.now {i = c.loop-i.i} (omega arith))
    at c.loop-i.invariant.1

pub hash_spec : {M : Type 1} → statement M
hash_spec =
    tie.close
    (tie.spec
    invariant_loop
    decreases_loop
    (λ c. (omega arith, refl))
    (λ c. search rules)
    (λ c κs. search rules)
    (λ c κs. search rules)
    (λ c. search rules)
    (λ c. search rules)
    loop_again
    returns)
