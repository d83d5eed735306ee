-- The record of a payload is the front of its cell, so a copy of that many bytes writes it.
use Rattle.std.proofs.Common.{length, ap, ◌∙◌, arith}
use Rattle.memory.proofs.Laws.Spans.{over_sets}
use Rattle.dump_write.proofs.Laws.Fields.{cell_ready, cell_counted, cell_most, cell_front}
use Rattle.dump_write.proofs.write_payload.Goals as goal

pub record_length-n-requires : goal.record_length-n-requires
record_length-n-requires c = cell_ready _ c.requires.0

pub piece-requires : goal.piece-requires
piece-requires c =
    let pre = c.requires in
    omega (arith, cell_counted _ pre.0 c.record_length-n.ensures, cell_most _ pre.0)

pub copy_in-requires : goal.copy_in-requires
copy_in-requires c =
    let pre = c.requires in
    let count = cell_counted _ pre.0 c.record_length-n.ensures in
    omega (arith, ap length (cell_front _ pre.0 count c.piece.ensures))

pub returns : goal.returns
returns c =
    let pre = c.requires in
    let count = cell_counted _ pre.0 c.record_length-n.ensures in
    let front = cell_front _ pre.0 count c.piece.ensures in
    record {
      count = count;
      bytes = c.copy_in.ensures ∙ rw front (over_sets c.args.out.now _ pre.1);
    }
