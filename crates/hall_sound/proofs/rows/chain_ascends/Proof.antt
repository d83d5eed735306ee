-- The chain ascends just when the rest from j on does above `last`; the newest must also be within the top.
use mathlib.Core.Path.{◌≡◌, sym, ◌∙◌}
use mathlib.Core.Bool.{true, and-false}
use mathlib.Core.List.{List, [], ◌∷◌, ◌++◌}
use Prim.Native.Nat.{◌-◌, ◌≤◌, ◌<◌}
use native.Mathlib.Omega.{arith}
use borrow.Author.Rules.{rules}
use borrow.Author.Tests.{lt-ltb, le-ltb, le-leb, lt-leb}
use lib.Dec.{leb, ltb}
use lib.Seq.{slice}
use Rattle.model.specs.Sound.{every}
use Rattle.model.specs.State.{Version}
use Rattle.hall.specs.Layout.{versions_in}
use Rattle.hall.specs.Tables.{version_at}
use Rattle.hall_sound.specs.Tests.{ascends}
use Rattle.hall_sound.proofs.Laws.Whole.{ascend_next, ascend_last}
use Rattle.hall_sound.proofs.rows.chain_ascends.Statement.{statement}
use Rattle.hall_sound.proofs.rows.chain_ascends.Tie as tie

abbrev invariant_loop : tie.invariant-loop-j
invariant_loop m from to i top last₀ j₀ last j =
    (j ≤ to)
    × (ascends 0 top (slice from to (versions_in m) ++ version_at i (versions_in m) ∷ [])
    ≡ ascends last top (slice j to (versions_in m) ++ version_at i (versions_in m) ∷ []))

abbrev decreases_loop : tie.decreases-loop-j
decreases_loop m from to i top last₀ j₀ last j = to - j

returns : tie.Need-returns-then-n-last invariant_loop decreases_loop
returns c =
    let h : c.number_at-n.result ≤ c.loop-j.last = omega arith in
    sym (rw (
      ascend_next _ _ _ _ _ _ c.loop-j-test.true c.requires.run.end,
      ← c.number_at-n.ensures,
      le-ltb _ _ h,
    ) at c.loop-j.invariant.1)

loop_again : tie.Need-loop-j-preserved invariant_loop decreases_loop
loop_again c =
    let h : c.loop-j.last < c.number_at-n.result = omega arith in (
      omega arith,
      rw (
        ascend_next _ _ _ _ _ _ c.loop-j-test.true c.requires.run.end,
        ← c.number_at-n.ensures,
        lt-ltb _ _ h,
      ) at c.loop-j.invariant.1,
    )

abbrev start : tie.After-number_at-n-2 invariant_loop decreases_loop → tie.Start invariant_loop decreases_loop
start c = c.before.before.before.before

abbrev vs : tie.After-number_at-n-2 invariant_loop decreases_loop → List Version
vs c = versions_in (start c).args.m.now

abbrev left : tie.After-number_at-n-2 invariant_loop decreases_loop → tie.At-loop-j invariant_loop decreases_loop
left c = c.before.before

-- after the loop the newest version decides
ended : (c : tie.After-number_at-n-2 invariant_loop decreases_loop)
    → ascends 0 (start c).args.top
    (slice (start c).args.from (start c).args.to (vs c) ++ version_at (start c).args.i (vs c) ∷ [])
    ≡ every (ltb (left c).loop-j.last c.number_at-n-2.result
    ∷ leb c.number_at-n-2.result (start c).args.top ∷ true ∷ [])
ended c =
    let loop = (left c).loop-j in
    loop.invariant.1 ∙ ascend_last _ _ loop.j (start c).args.to _ _ (omega arith) c.number_at-n-2.ensures

returns_2 : tie.Need-returns-then-n-last-2 invariant_loop decreases_loop
unfolding every
returns_2 c = sym (rw (le-ltb _ _ c.if-n-last-2.true) at (ended c.before))

returns_3 : tie.Need-returns-then-top-n invariant_loop decreases_loop
unfolding every
returns_3 c = sym (rw (lt-leb _ _ c.if-top-n.true, and-false) at (ended c.before.before))

returns_4 : tie.Need-returns invariant_loop decreases_loop
unfolding every
returns_4 c =
    sym (rw (lt-ltb _ _ c.if-n-last-2.false, le-leb _ _ c.if-top-n.false) at (ended c.before.before))

pub chain_ascends_spec : {M : Type 1} → statement M
chain_ascends_spec =
    tie.close
    (tie.spec
    invariant_loop
    decreases_loop
    (λ c. search rules)
    (λ c κs. search rules)
    returns
    (λ c. omega arith)
    (λ c. omega arith)
    loop_again
    (λ c κs. search rules)
    returns_2
    returns_3
    returns_4)
