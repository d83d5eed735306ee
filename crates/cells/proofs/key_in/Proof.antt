-- In a key cell the length is at most the longest key's, so the piece that holds the key lies in the cell.
use native.Mathlib.Omega.{arith}
use borrow.Author.Rules.{rules}
use Rattle.cells.specs.Cells.{key_from}
use Rattle.cells.proofs.Laws.Cells.{key_fits_lem}
use Rattle.cells.proofs.key_in.Statement.{statement}
use Rattle.cells.proofs.key_in.Tie as tie

piece_requires : tie.Need-piece-requires
piece_requires c κs =
    let cell-ensures = c.cell-c.ensures in
    omega (arith, key_fits_lem _ cell-ensures.1 (rw (← cell-ensures.0) at c.requires.1))

returns : tie.Need-returns
unfolding key_from
returns c = rw (← c.cell-c.ensures.0) c.piece.ensures

pub key_in_spec : {M : Type 1} → statement M
key_in_spec =
    tie.close
    (tie.spec
    (λ c κs. search rules)
    (λ c. search rules)
    (λ c. omega (arith, c.shared_slice_known-2-1.given 0))
    piece_requires
    returns)
