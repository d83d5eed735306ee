-- The length, then the value with zeros after it.
use native.Mathlib.Nat.{add-zero}
use borrow.Author.Rules.{rules}
use Rattle.batch_calls.proofs.Laws.Details.{value_stored}
use Rattle.batch_calls.proofs.write_value.Statement.{statement}
use Rattle.batch_calls.proofs.write_value.Tie as tie

returns : tie.Need-returns
returns c =
    value_stored _ _ c.args.val.now c.requires.0 (simp add-zero at c.write32.ensures)
    c.pad_in.ensures

pub write_value_spec : {M : Type 1} → statement M
write_value_spec =
    tie.close
    (tie.spec
    (λ c. search rules)
    (λ c κs. search rules)
    (λ c. search rules)
    (λ c κs. search rules)
    (λ c. search rules)
    returns)
