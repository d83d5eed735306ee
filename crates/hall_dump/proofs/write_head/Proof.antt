-- Magic, next number and key count, written side by side, are the dump's head.
use mathlib.Core.Path.{sym}
use Prim.Native.Nat.{◌+◌, ◌≤◌}
use native.Mathlib.Omega.{arith}
use borrow.Author.Rules.{rules}
use lib.ListN.{length}
use Rattle.model.specs.Sizes.{number_width}
use Rattle.model.specs.Bytes.{bytes}
use Rattle.model.specs.Dump.{magic}
use Rattle.memory.proofs.Laws.Numbers.{length_bytes}
use Rattle.hall.proofs.Laws.Sound.{sound_shaped}
use Rattle.hall_dump.proofs.Laws.Records.{head_width, head_apart, length_magic, length_head, hall_counter}
use Rattle.dump_write.proofs.Laws.Writes.{over_fields}
use Rattle.hall_dump.proofs.write_head.Statement.{statement}
use Rattle.hall_dump.proofs.write_head.Tie as tie

abbrev start : tie.After-copy_in → tie.Start
start c = c.before.before.before.before.before.before

room : (c : tie.Start) → head_width ≤ length c.args.out.now
room c = rw length_head at c.requires.1

copy_in_requires : tie.Need-copy_in-requires
copy_in_requires c κs = omega (arith, room c.before.before.before.before.before)

add_write64 : tie.Need-overflow_add-counter
add_write64 c = omega (arith, hall_counter _ (start c.before.before.before.before).requires.0)

write64_requires : tie.Need-write64-requires
write64_requires c κs = omega (arith, room (start c.before.before.before.before))

write32_requires : tie.Need-write32-requires
write32_requires c κs =
    omega (arith, room (start c.before.before.before.before.before.before.before.before.before))

returns : tie.Need-returns
unfolding magic
returns c =
    let pre = (start c.before.before.before.before.before.before.before.before.before.before.before.before).requires in
    let apart = head_apart _ pre.0 c.counter.ensures c.key_count.ensures in
    record {
      count = sym (length_head _);
      bytes = rw apart
          (over_fields _ magic (bytes number_width (c.counter.result + 1)) _ length_magic (rw length_bytes)
          (rw apart at pre.1) c.copy_in.ensures c.write64.ensures
          c.write32.ensures);
    }

pub write_head_spec : {M : Type 1} → statement M
write_head_spec =
    tie.close
    (tie.spec
    copy_in_requires
    (λ c κs. search (rules, sound_shaped))
    add_write64
    write64_requires
    (λ c κs. search (rules, sound_shaped))
    write32_requires
    (λ c. search rules)
    returns)
