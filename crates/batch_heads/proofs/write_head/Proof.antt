-- Number, number, byte, byte: one after the other they are the head's fields.
use native.Mathlib.Nat.{add-zero}
use native.Mathlib.Omega.{arith}
use borrow.Author.Rules.{rules}
use lib.ListN.{length-set}
use Rattle.batch_heads.proofs.Laws.{fields_stored}
use Rattle.batch_heads.proofs.write_head.Statement.{statement}
use Rattle.batch_heads.proofs.write_head.Tie as tie

returns : tie.Need-returns
returns c =
    rw (← c.place-at.ensures)
    (fields_stored _ _ _ _ _ _ (simp add-zero at c.write64.ensures) c.write64-2.ensures)

pub write_head_spec : {M : Type 1} → statement M
write_head_spec =
    tie.close
    (tie.spec
    (λ c κs. search rules)
    (λ c. search rules)
    (λ c κs. search rules)
    (λ c. search rules)
    (λ c κs. search rules)
    (λ c. search rules)
    (λ c. search rules)
    (λ c. search rules)
    (λ c. search rules)
    (λ c. search rules)
    (λ c. simp length-set (omega arith))
    (λ c. simp length-set (omega arith))
    returns)
