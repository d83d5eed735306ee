-- A version's record is the front of its row, so a copy of that many bytes writes it.
use mathlib.Core.Path.{ap, ◌∙◌}
use native.Mathlib.Omega.{arith}
use borrow.Author.Rules.{rules}
use lib.ListN.{length}
use Rattle.hall.proofs.Laws.Rows.{version_fits}
use Rattle.hall_dump.proofs.Laws.Records.{record_most_lem, record_piece}
use Rattle.memory.proofs.Laws.Spans.{over_sets}
use Rattle.hall_dump.proofs.write_version_record.Statement.{statement}
use Rattle.hall_dump.proofs.write_version_record.Tie as tie

piece_requires : tie.Need-piece-requires
piece_requires c κs =
    let pre = c.requires in
    omega (arith, version_fits _ pre.shaped _ pre.below, record_most_lem _ pre.shaped _ pre.below)

copy_in_requires : tie.Need-copy_in-requires
copy_in_requires c κs =
    let pre = c.requires in
    omega (
      arith,
      ap length (record_piece _ pre.shaped _ pre.below c.place.ensures
          c.version_length-n.ensures c.piece.ensures),
    )

returns : tie.Need-returns
returns c =
    let pre = c.requires in
    let front = record_piece _ pre.shaped _ pre.below c.place.ensures
    c.version_length-n.ensures c.piece.ensures in
    record {
      count = c.version_length-n.ensures;
      bytes = c.copy_in.ensures ∙ rw front (over_sets c.args.out.now _ pre.room);
    }

pub write_version_record_spec : {M : Type 1} → statement M
write_version_record_spec =
    tie.close
    (tie.spec
    (λ c κs. search rules)
    (λ c κs. search rules)
    piece_requires
    copy_in_requires
    (λ c. search rules)
    returns)
