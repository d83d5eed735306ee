-- The number and the payload's cell behind it are the version's bytes, so two stores put in the whole row.
use native.Mathlib.Omega.{arith}
use borrow.Author.Rules.{rules}
use Rattle.memory.proofs.Laws.Numbers.{are_bytes_of}
use Rattle.hall_rows.proofs.Laws.Runs.{version_stored}
use Rattle.hall_rows.proofs.versions.put.Statement.{statement}
use Rattle.hall_rows.proofs.versions.put.Tie as tie

returns : tie.Need-returns
returns c =
    version_stored _ c.requires.shaped _ _ _ (omega arith) c.requires.cell
    (are_bytes_of c.args.cell.now
    (λ i. omega (arith, c.shared_slice_known-1.given i))) c.requires.below
    c.place-at.ensures c.write64.ensures c.copy_in.ensures

pub put_spec : {M : Type 1} → statement M
put_spec =
    tie.close
    (tie.spec
    (λ c κs. search rules)
    (λ c κs. search rules)
    (λ c. search rules)
    (λ c κs. search rules)
    (λ c. search rules)
    returns)
