-- The newest stands in the key's own row; k below it is k rows before the end of the key's older versions.
use native.Mathlib.Omega.{arith}
use borrow.Author.Tests.{eq-eqb, ne_eqb}
use Rattle.hall.proofs.Laws.Sound.{sound_shaped}
use Rattle.hall_conflict.proofs.Laws.Above.{down_fits}
use Rattle.hall_conflict.proofs.version_down.Statement.{statement}
use Rattle.hall_conflict.proofs.version_down.Tie as tie

add_result : tie.Need-overflow_add-result
add_result c =
    omega (
      arith,
      down_fits _ c.requires c.key_count.ensures c.end_at.ensures,
    )

sub_result : tie.Need-overflow_sub-result
sub_result c =
    omega (
      arith,
      down_fits _ c.requires c.key_count.ensures c.end_at.ensures,
    )

pub version_down_spec : {M : Type 1} → statement M
version_down_spec =
    tie.close
    (tie.spec
    (λ c. rw (eq-eqb _ _ c.if-k-eq0.true))
    (λ c κs. sound_shaped _ c.requires.hall)
    (λ c κs. let pre = c.requires in (sound_shaped _ pre.hall, pre.row))
    add_result
    sub_result
    (λ c. rw (ne_eqb _ _ c.if-k-eq0.false, ← c.key_count.ensures, ← c.end_at.ensures)))
