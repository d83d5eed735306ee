-- The key's fields, then the payload into the rest that is lent, are the write's record.
use mathlib.Core.Path.{refl, sym}
use mathlib.Core.List.{[], append-nil}
use native.Mathlib.Omega.{arith}
use borrow.Author.Rules.{rules}
use lib.ListN.{length-append}
use Rattle.model.specs.State.{Write}
use Rattle.model.specs.Dump.{dump_payload}
use Rattle.model.specs.Journal.{dump_write}
use Rattle.dump_write.proofs.Laws.Writes.{Written, written_all, lent_room, written_more}
use Rattle.desk_writes.specs.Writes.{write_in}
use Rattle.journal_write.proofs.Laws.Records.{write_apart, key_first, cell_of, cell_told, written_most}
use Rattle.journal_write.proofs.write_write.Statement.{statement}
use Rattle.journal_write.proofs.write_write.Tie as tie

abbrev start : tie.After-write_key-at → tie.Start
start c = c.before.before.before.before.before

abbrev write : tie.After-write_key-at → Write
write c = let args = (start c).args in write_in args.m.now args.d args.i

-- the key's fields are written
key_written : (c : tie.After-write_key-at) → let out = c.write_key-at.new.out in
    Written (dump_write (write c)) (dump_payload (write c).payload) out out c.write_key-at.result c.write_key-at.result
key_written c = key_first _ c.key_at.ensures c.write_key-at.ensures (start c).requires.1

write_key_requires : tie.Need-write_key-at-requires
write_key_requires c κs =
    let pre = c.requires in
    rw c.key_at.ensures (omega (arith, rw (write_apart, length-append) at pre.1))

sub_write_payload : tie.Need-slice_bounds-write_payload-count
sub_write_payload c = omega (arith, (key_written c.before.before.before).inside)

part_write_payload_start : tie.Need-slice_bounds-write_payload-start
part_write_payload_start c = omega (arith, (key_written c.before.before.before).inside)

write_payload_requires : tie.Need-write_payload-requires
write_payload_requires c κs =
    let keyed = c.before.before.before.before in
    let written = (start keyed).requires.0 in
    let cell = c.payload_at.ensures in (
      cell_of _ _ _ written cell,
      rw (cell_told _ _ _ written cell)
          (lent_room (key_written keyed) (dump_payload (write keyed).payload) [] (sym (append-nil _))),
    )

returns : tie.Need-returns
returns c =
    let keyed = c.before.before.before.before.before.before.before in
    let told = cell_told _ _ _ (start keyed).requires.0 c.payload_at.ensures in
    let payload = rw told at c.write_payload.ensures in
    written_all c.write_key-at.ensures refl
    (written_more (key_written keyed) _ [] (sym (append-nil _)) payload)

add_result : tie.Need-overflow_add-result
add_result c =
    let written = (start c.before.before.before.before.before.before.before).requires.0 in
    omega (arith, (returns c).count, written_most _ _ _ written)

pub write_write_spec : {M : Type 1} → statement M
write_write_spec =
    tie.close
    (tie.spec
    (λ c κs. search rules)
    write_key_requires
    (λ c κs. search rules)
    sub_write_payload
    part_write_payload_start
    (λ c. search rules)
    write_payload_requires
    add_result
    (λ c. search rules)
    returns)
