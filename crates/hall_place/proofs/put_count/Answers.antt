-- Both tests hold just where four bytes fit from `at` on; then `write32` stores them, and else nothing is.
use Rattle.std.proofs.Common.{arith, sym, ◌∙◌}
use Rattle.memory.proofs.Laws.Numbers.{length_bytes}
use Rattle.hall_place.proofs.Laws.{fit_yes, fit_no}
use Rattle.hall_place.proofs.put_count.Goals as goal
use Rattle.hall_place.proofs.put_count.Goals.{else-at-m-via-then-at-m+else-m-at-ge-COUNT_WIDTH, else-at-m-via-else-at-m}

pub returns-then-m-at-ge-COUNT_WIDTH : goal.returns-then-m-at-ge-COUNT_WIDTH
returns-then-m-at-ge-COUNT_WIDTH c = c.write32.ensures ∙ sym (fit_yes _ _ _ (rw length_bytes (omega arith)))

pub returns-else-at-m : goal.returns-else-at-m
returns-else-at-m c =
    elim c.else-at-m.branch [
      | else-at-m-via-then-at-m+else-m-at-ge-COUNT_WIDTH w ↦ sym (fit_no _ _ _ (rw length_bytes (omega arith)))
      | else-at-m-via-else-at-m w ↦ sym (fit_no _ _ _ (rw length_bytes (omega arith)))
    ]
