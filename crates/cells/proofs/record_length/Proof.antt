-- A deletion's record is its tag alone; a value's is tag, length and as many bytes as the length says.
use borrow.Author.Rules.{rules}
use borrow.Author.Tests.{eq-eqb, ne_eqb}
use Rattle.cells.proofs.Laws.Cells.{record_length_lem}
use Rattle.cells.proofs.record_length.Statement.{statement}
use Rattle.cells.proofs.record_length.Tie as tie

returns : tie.Need-returns-then-c-eq0
returns c =
    let told = c.cell-c.ensures in
    rw (record_length_lem told.0 told.1 c.requires.1, eq-eqb _ 0 c.if-c-eq0.true)

returns_2 : tie.Need-returns
returns_2 c =
    let told = record_length_lem c.cell-c.ensures.0 c.cell-c.ensures.1
    c.requires.1 in
    rw (told, ne_eqb _ 0 c.if-c-eq0.false, ← c.value_length.ensures)

pub record_length_spec : {M : Type 1} → statement M
record_length_spec =
    tie.close
    (tie.spec
    (λ c κs. search rules)
    (λ c. search rules)
    returns
    (λ c κs. search rules)
    (λ c. search rules)
    (λ c. search rules)
    returns_2)
