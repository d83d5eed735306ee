-- Both tests hold just where the source fits from `at` on; then it is copied, and else nothing is stored.
use Rattle.std.proofs.Common.{arith, sym, ◌∙◌}
use Rattle.hall_place.proofs.Laws.{fit_yes, fit_no}
use Rattle.hall_place.proofs.put_in.Goals as goal
use Rattle.hall_place.proofs.put_in.Goals.{else-at-m-via-then-at-m+else-src-m, else-at-m-via-else-at-m}

pub returns-then-src-m : goal.returns-then-src-m
returns-then-src-m c = c.copy_in.ensures ∙ sym (fit_yes _ _ _ (omega arith))

pub returns-else-at-m : goal.returns-else-at-m
returns-else-at-m c =
    elim c.else-at-m.branch [
      | else-at-m-via-then-at-m+else-src-m w ↦ sym (fit_no _ _ _ (omega arith))
      | else-at-m-via-else-at-m w ↦ sym (fit_no _ _ _ (omega arith))
    ]
