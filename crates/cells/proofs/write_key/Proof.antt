-- The length byte and the padded key behind it make the key's cell, and `pad_in` leaves the byte alone.
use native.Mathlib.Omega.{arith}
use borrow.Author.Rules.{rules}
use lib.ListN.{length, length-set}
use Rattle.cells.proofs.Laws.Cells.{key_stored}
use Rattle.cells.proofs.write_key.Statement.{statement}
use Rattle.cells.proofs.write_key.Tie as tie

same_length : tie.Need-shape_of-m
same_length c =
    let args = c.args in
    omega (arith, length-set args.m.now args.at (length args.key.now))

pub write_key_spec : {M : Type 1} → statement M
write_key_spec =
    tie.close
    (tie.spec
    (λ c. search rules)
    (λ c. search rules)
    (λ c. search rules)
    (λ c κs. simp length-set (omega arith))
    same_length
    (λ c. key_stored _ _ _ c.pad_in.ensures))
