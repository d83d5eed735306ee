-- The key's fields and the version count, written side by side, are the fields before a key's versions.
use Prim.Native.Nat.{◌+◌, ◌≤◌}
use native.Mathlib.Omega.{arith}
use borrow.Author.Rules.{rules}
use lib.ListN.{length, length-append}
use Rattle.model.specs.Sizes.{count_width}
use Rattle.memory.proofs.Laws.Numbers.{length_bytes}
use Rattle.dump_write.specs.Fields.{key_fields}
use Rattle.dump_write.proofs.Laws.Writes.{over_after}
use Rattle.dump_write.proofs.Laws.Fields.{key_then}
use Rattle.hall_dump.specs.Records.{key_head}
use Rattle.hall_dump.proofs.write_key_fields.Statement.{statement}
use Rattle.hall_dump.proofs.write_key_fields.Tie as tie

abbrev start : tie.After-write_key-at → tie.Start
start c = c.before.before.before.before

room : (c : tie.Start) → length (key_fields c.args.key.now) + count_width ≤ length c.args.out.now
unfolding key_head
room c = rw (key_then, length-append, length_bytes) at c.requires

write32_requires : tie.Need-write32-requires
write32_requires c κs = omega (arith, room (start c.before.before.before))

returns : tie.Need-returns
unfolding key_head
returns c =
    let wrote = c.write_key-at.ensures in
    record {
      count = rw (key_then, length-append, length_bytes) (omega (arith, wrote.count));
      bytes = rw key_then
          (over_after _ _ _ wrote (rw key_then at (start c.before.before.before.before.before.before).requires) c.write32.ensures);
    }

add_result : tie.Need-overflow_add-result
add_result c = omega (arith, room (start c.before.before.before.before.before.before))

pub write_key_fields_spec : {M : Type 1} → statement M
write_key_fields_spec =
    tie.close
    (tie.spec
    (λ c κs. omega (arith, room c.before.before.before))
    write32_requires
    add_result
    (λ c. search rules)
    returns)
