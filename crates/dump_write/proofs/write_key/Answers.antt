-- Length and key, written side by side, are the key's fields.
use Rattle.std.proofs.Common.{length, arith}
use Rattle.model.specs.Sizes.{count_width}
use Rattle.model.specs.Bytes.{bytes}
use Rattle.memory.proofs.Laws.Numbers.{length_bytes}
use Rattle.dump_write.specs.Fields.{key_fields}
use Rattle.dump_write.proofs.Laws.Writes.{over_pair}
use Rattle.dump_write.proofs.Laws.Fields.{length_key}
use Rattle.dump_write.proofs.write_key.Goals as goal

pub write32-requires : goal.write32-requires
write32-requires c = omega (arith, length_key c.args.key.now)

pub copy_in-requires : goal.copy_in-requires
copy_in-requires c = omega (arith, length_key c.args.key.now)

pub returns : goal.returns
unfolding key_fields
returns c =
    let key = c.args.key.now in
    record {
      count = omega (arith, length_key key);
      bytes = over_pair c.args.out.now (bytes count_width (length key)) key
          (length_bytes count_width (length key)) c.requires c.write32.ensures
          c.copy_in.ensures;
    }
