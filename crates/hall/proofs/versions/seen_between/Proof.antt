-- Of the versions from j up to `to` none is seen; going down, the first that is seen is the last of all.
use mathlib.Core.Path.{◌≡◌, refl, sym, ◌∙◌}
use Prim.Native.Nat.{◌-◌, ◌≤◌}
use native.Mathlib.Omega.{arith}
use Rattle.hall.specs.Layout.{versions_in}
use Rattle.hall.specs.Seen.{seen_from}
use Rattle.hall.proofs.Laws.Chains.{seen_step, seen_end}
use Rattle.hall.proofs.versions.seen_between.Statement.{statement}
use Rattle.hall.proofs.versions.seen_between.Tie as tie

abbrev invariant_loop : tie.invariant-loop-j
invariant_loop m from to start j₀ j =
    (from ≤ j)
    × ((j ≤ to)
    × (seen_from start.0 from (to - from) (versions_in m) ≡ seen_from start.0 from (j - from) (versions_in m)))

abbrev decreases_loop : tie.decreases-loop-j
decreases_loop m from to start j₀ j = j

loop_holds : tie.Need-loop-j-init invariant_loop decreases_loop
loop_holds c = (c.requires.start, (omega arith, refl))

is_seen_requires : tie.Need-is_seen-requires invariant_loop decreases_loop
is_seen_requires c κs = let pre = c.requires in (pre.shaped, omega arith)

returns : tie.Need-returns-then-is_seen invariant_loop decreases_loop
returns c =
    let s = c.args in
    let e = c.loop-j.invariant.1.1
    ∙ seen_step s.start.0 s.from c.loop-j.j (versions_in s.m.now)
    c.loop-j-test.true refl in
    sym (e ∙ rw (sym c.is_seen.ensures ∙ c.if-is_seen.true))

loop_again : tie.Need-loop-j-preserved invariant_loop decreases_loop
loop_again c =
    let s = c.args in
    let e = c.loop-j.invariant.1.1
    ∙ seen_step s.start.0 s.from c.loop-j.j (versions_in s.m.now)
    c.loop-j-test.true refl in
    (omega arith, (omega arith, e ∙ rw (sym c.is_seen.ensures ∙ c.if-is_seen.false)))

returns_2 : tie.Need-returns invariant_loop decreases_loop
returns_2 c =
    let s = c.args in
    sym (c.loop-j.invariant.1.1 ∙ seen_end s.start.0 _ _ (versions_in s.m.now) c.loop-j-test.false)

pub seen_between_spec : {M : Type 1} → statement M
seen_between_spec =
    tie.close
    (tie.spec
    invariant_loop
    decreases_loop
    loop_holds
    (λ c. omega arith)
    is_seen_requires
    returns
    (λ c. omega arith)
    loop_again
    returns_2)
