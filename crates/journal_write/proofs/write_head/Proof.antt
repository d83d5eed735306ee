-- Mark, body length, number and count, written side by side, are the record's head.
use mathlib.Core.Path.{sym}
use borrow.Author.Rules.{rules}
use Rattle.model.specs.Sizes.{number_width, count_width}
use Rattle.model.specs.Bytes.{bytes}
use Rattle.model.specs.Journal.{mark}
use Rattle.memory.proofs.Laws.Numbers.{length_bytes}
use Rattle.dump_write.proofs.Laws.Writes.{over_four}
use Rattle.journal_write.specs.Records.{record_head}
use Rattle.journal_fields.proofs.Laws.{length_mark, mark_bytes}
use Rattle.journal_write.proofs.Laws.Records.{length_head}
use Rattle.journal_write.proofs.write_head.Statement.{statement}
use Rattle.journal_write.proofs.write_head.Tie as tie

returns : tie.Need-returns
unfolding record_head
returns c =
    let args = c.args in
    record {
      count = sym (length_head args.len args.number args.count);
      bytes = over_four args.out.now mark (bytes count_width args.len) (bytes number_width args.number)
          (bytes count_width args.count) length_mark (rw length_bytes) (rw length_bytes)
          (rw length_head c.requires) (rw mark_bytes at c.write16.ensures) c.write32.ensures
          c.write64.ensures c.write32-2.ensures;
    }

pub write_head_spec : {M : Type 1} → statement M
write_head_spec =
    tie.close
    (tie.spec
    (λ c κs. search rules)
    (λ c κs. search rules)
    (λ c κs. search rules)
    (λ c κs. search rules)
    (λ c. search rules)
    returns)
