-- A version's record is its number and its payload's record, which `record_length` measures in its cell.
use native.Mathlib.Omega.{arith}
use borrow.Author.Rules.{rules}
use Rattle.hall.proofs.Laws.Rows.{version_fits, payload_is_cell}
use Rattle.hall_dump.proofs.Laws.Records.{record_most_lem, record_counted}
use Rattle.hall_dump.proofs.version_length.Statement.{statement}
use Rattle.hall_dump.proofs.version_length.Tie as tie

record_length_requires : tie.Need-record_length-requires
record_length_requires c κs =
    let pre = c.requires in
    rw c.payload_place.ensures
    (omega (arith, version_fits _ pre.0 _ pre.1), payload_is_cell _ pre.0 _ pre.1)

returns : tie.Need-returns
returns c =
    let pre = c.requires in
    record_counted _ pre.0 _ pre.1 c.payload_place.ensures c.record_length.ensures

add_result : tie.Need-overflow_add-result
add_result c =
    let pre = c.requires in omega (arith, record_most_lem _ pre.0 _ pre.1, returns c)

pub version_length_spec : {M : Type 1} → statement M
version_length_spec = tie.close (tie.spec (λ c κs. search rules) record_length_requires add_result returns)
