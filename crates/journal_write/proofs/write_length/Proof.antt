-- A write's record is its key's fields and its payload's record, which `record_length` measures in its cell.
use native.Mathlib.Omega.{arith}
use borrow.Author.Rules.{rules}
use Rattle.dump_write.proofs.Laws.Fields.{cell_ready, cell_counted}
use Rattle.journal_fields.proofs.Laws.{length_write}
use Rattle.journal_write.proofs.Laws.Records.{cell_of, cell_told, written_most}
use Rattle.journal_write.proofs.write_length.Statement.{statement}
use Rattle.journal_write.proofs.write_length.Tie as tie

record_length_requires : tie.Need-record_length-requires
record_length_requires c κs =
    cell_ready _ (cell_of _ _ _ c.requires c.payload_at.ensures)

-- what was measured
returns : tie.Need-returns
returns c =
    let pre = c.requires in
    let cell = c.payload_at.ensures in
    let count = cell_counted _ (cell_of _ _ _ pre cell) c.record_length.ensures in
    rw (length_write, c.key_at-k.ensures, count, cell_told _ _ _ pre cell)

add_result_2 : tie.Need-overflow_add-result-2
add_result_2 c = omega (arith, returns c, written_most _ _ _ c.requires)

pub write_length_spec : {M : Type 1} → statement M
write_length_spec =
    tie.close
    (tie.spec
    (λ c κs. search rules)
    (λ c. search rules)
    (λ c κs. search rules)
    record_length_requires
    add_result_2
    returns)
