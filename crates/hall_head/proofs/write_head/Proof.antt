-- The numbers stand one behind the other from 0 on: their stores make one run of bytes, of which the last two are put first.
use borrow.Author.Rules.{rules}
use Rattle.hall_head.proofs.Laws.{head_stored}
use Rattle.hall_head.proofs.write_head.Statement.{statement}
use Rattle.hall_head.proofs.write_head.Tie as tie

returns : tie.Need-returns
returns c =
    head_stored _ _ _ _ _ _ _ _ c.write64.ensures c.write32.ensures
    c.write32-2.ensures c.write32-3.ensures c.write64-2.ensures
    c.write32-4.ensures c.write32-5.ensures

pub write_head_spec : {M : Type 1} → statement M
write_head_spec =
    tie.close
    (tie.spec
    (λ c κs. search rules)
    (λ c κs. search rules)
    (λ c κs. search rules)
    (λ c κs. search rules)
    (λ c κs. search rules)
    (λ c κs. search rules)
    (λ c κs. search rules)
    (λ c. search rules)
    returns)
