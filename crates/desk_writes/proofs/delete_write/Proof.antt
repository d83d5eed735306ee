-- `own_write` finds the row: its payload becomes a deletion, or a deletion goes in where the key belongs.
use borrow.Author.Rules.{rules}
use Rattle.desk_writes.specs.Writes.{Written}
use Rattle.desk_writes.proofs.Laws.Writes.{row_named, payload_fits_lem, found_at, insertable, deleted_over, deleted_new}
use Rattle.desk_writes.proofs.delete_write.Statement.{statement}
use Rattle.desk_writes.proofs.delete_write.Tie as tie

abbrev start : tie.After-own_write → tie.Start
start c = c.before.before.before

abbrev sought : tie.In-At → tie.After-own_write
sought c = c.before

-- the key has its write in row i
found : (c : tie.In-At) → Written (start (sought c)).args.m.now (start (sought c)).args.d c.in-At.i
found c = found_at _ _ _ (start (sought c)).requires _ (sought c).own_write.ensures c.in-At.is

insert_deletion_requires : tie.Need-insert_deletion-requires
insert_deletion_requires c κs =
    insertable _ _ _ (start c.before.before).requires _ c.own_write.ensures c.in-Before.is

returns : tie.Need-returns-in-At
returns c =
    let seen = sought c.before.before.before.before.before in
    deleted_over _ _ _ (start seen).requires _ seen.own_write.ensures c.in-At.is
    c.payload_place.ensures c.write_deletion.ensures

returns_2 : tie.Need-returns-in-Before
returns_2 c =
    deleted_new _ _ _ (start c.before.before.before.before.before).requires _ c.own_write.ensures c.in-Before.is
    c.insert_deletion.ensures

pub delete_write_spec : {M : Type 1} → statement M
delete_write_spec =
    tie.close
    (tie.spec
    (λ c κs. search rules)
    (λ c. search rules)
    (λ c κs. row_named _ _ _ (found c.before))
    (λ c κs. payload_fits_lem _ _ _ (found c.before.before) c.payload_place.ensures)
    (λ c. search rules)
    insert_deletion_requires
    (λ c. search rules)
    returns
    (λ c. search rules)
    returns_2)
