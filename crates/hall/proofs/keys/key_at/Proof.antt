-- A key row of shaped memory begins with a key's cell, so `key_in` reads the key that the row says.
use mathlib.Core.Path.{◌∙◌}
use native.Mathlib.Omega.{arith}
use borrow.Author.Rules.{rules}
use Rattle.hall.proofs.Laws.Rows.{row_fits_lem, key_is_cell, key_told}
use Rattle.hall.proofs.keys.key_at.Statement.{statement}
use Rattle.hall.proofs.keys.key_at.Tie as tie

key_in_requires : tie.Need-key_in-requires
key_in_requires c κs =
    let p = c.requires in
    rw c.row_place.ensures (omega (arith, row_fits_lem _ p.0 _ p.1), key_is_cell _ p.0 _ p.1)

returns : tie.Need-returns
returns c =
    let p = c.requires in
    c.key_in.ensures ∙ rw c.row_place.ensures (key_told _ p.0 _ p.1)

pub key_at_spec : {M : Type 1} → statement M
key_at_spec = tie.close (tie.spec (λ c κs. search rules) key_in_requires returns)
