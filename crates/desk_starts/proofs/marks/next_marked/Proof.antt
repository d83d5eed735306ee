-- No version from `from` up to j has a mark, so none of their numbers is a start that is marked.
use mathlib.Core.Path.{refl, sym, ◌∙◌}
use Prim.Native.Nat.{◌-◌, ◌≤◌}
use native.Mathlib.Omega.{arith}
use lib.ListN.{drop}
use Rattle.hall.specs.Layout.{versions_in}
use Rattle.hall.proofs.Laws.Sound.{sound_shaped}
use Rattle.desk_starts.specs.Marks.{Passed}
use Rattle.desk_starts.proofs.Marking.{pass_next}
use Rattle.desk_starts.proofs.marks.next_marked.Statement.{statement}
use Rattle.desk_starts.proofs.marks.next_marked.Tie as tie

abbrev invariant_loop : tie.invariant-loop-j
invariant_loop hall marks from n j₀ j = (from ≤ j) × Passed marks (drop from (versions_in hall)) (drop j (versions_in hall))

abbrev decreases_loop : tie.decreases-loop-j
decreases_loop hall marks from n j₀ j = n - j

number_at_requires : tie.Need-number_at-requires invariant_loop decreases_loop
number_at_requires c κs = (
  sound_shaped _ c.requires.0,
  omega (arith, c.version_count-n.ensures),
)

loop_again : tie.Need-loop-j-preserved invariant_loop decreases_loop
loop_again c =
    let h = rw c.version_count-n.ensures at c.loop-j-test.true in
    let e = sym c.is_marked.ensures ∙ c.if-is_marked.false in (
      omega (arith, c.loop-j.invariant.0),
      pass_next _ _ _ h (rw c.number_at.ensures at e) c.loop-j.invariant.1,
    )

pub next_marked_spec : {M : Type 1} → statement M
next_marked_spec =
    tie.close
    (tie.spec
    invariant_loop
    decreases_loop
    (λ c κs. sound_shaped _ c.requires.0)
    (λ c. (omega arith, λ ds g. refl))
    number_at_requires
    (λ c κs. c.requires.1)
    (λ c. c.loop-j.invariant)
    (λ c. omega arith)
    (λ c. omega arith)
    loop_again
    (λ c. c.loop-j.invariant))
