-- No version from `first` up to j has a start's number: it was tested, or has no mark, and each start has one.
use mathlib.Core.Path.{◌≡◌, refl, sym, ◌∙◌}
use Prim.Native.Nat.{◌-◌}
use native.Mathlib.Omega.{arith}
use lib.ListN.{drop, drop_of_length-le}
use Rattle.hall.specs.Layout.{versions_in}
use Rattle.hall.proofs.Laws.Sound.{sound_shaped}
use Rattle.desk.specs.Layout.{desks_in}
use Rattle.desk_starts.specs.Starts.{none_starts}
use Rattle.desk_starts.proofs.Laws.{none_next}
use Rattle.desk_starts.proofs.none_starts_from.Statement.{statement}
use Rattle.desk_starts.proofs.none_starts_from.Tie as tie

abbrev invariant_loop : tie.invariant-loop-j
invariant_loop hall desk marked least greatest first n j₀ j =
    none_starts (desks_in desk) (drop j (versions_in hall)) ≡ none_starts (desks_in desk) (drop first (versions_in hall))

abbrev decreases_loop : tie.decreases-loop-j
decreases_loop hall desk marked least greatest first n j₀ j = n - j

number_at_requires : tie.Need-number_at-requires invariant_loop decreases_loop
number_at_requires c κs = (
  sound_shaped _ c.requires.0.hall,
  omega (arith, c.version_count-n.ensures),
)

returns : tie.Need-returns-then-is_start invariant_loop decreases_loop
returns c =
    let h = rw c.version_count-n.ensures at c.loop-j-test.true in
    rw (none_next _ _ _ h, ← c.number_at.ensures, ← c.is_start.ensures, c.if-is_start.true)
    at c.loop-j.invariant

next_marked_requires : tie.Need-next_marked-j-requires invariant_loop decreases_loop
next_marked_requires c κs =
    let p = c.requires in
    (p.0.hall, p.1.long)

loop_again : tie.Need-loop-j-preserved invariant_loop decreases_loop
loop_again c =
    let p = c.requires in
    let h = rw c.version_count-n.ensures at c.loop-j-test.true in
    let n = c.number_at.ensures in
    sym (c.next_marked-j.ensures.1 _ p.1)
    ∙ rw (none_next _ _ _ h, ← n, ← c.is_start.ensures, c.if-is_start.false) at c.loop-j.invariant

returns_2 : tie.Need-returns invariant_loop decreases_loop
unfolding none_starts
returns_2 c =
    rw (drop_of_length-le _ (rw c.version_count-n.ensures at c.loop-j-test.false))
    at c.loop-j.invariant

pub none_starts_from_spec : {M : Type 1} → statement M
none_starts_from_spec =
    tie.close
    (tie.spec
    invariant_loop
    decreases_loop
    (λ c κs. sound_shaped _ c.requires.0.hall)
    (λ c. refl)
    number_at_requires
    (λ c κs. let p = c.requires.0 in (p.shaped, p.between))
    returns
    (λ c. omega arith)
    next_marked_requires
    (λ c. omega (arith, c.next_marked-j.ensures.0))
    loop_again
    returns_2)
