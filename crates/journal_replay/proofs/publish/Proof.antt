-- The keys are sought once; if rooms are left for them and their versions, the writes are published.
use borrow.Author.Rules.{rules}
use Rattle.journal_replay.proofs.Laws.Published.{lacking, offered}
use Rattle.journal_replay.proofs.publish.Statement.{statement}
use Rattle.journal_replay.proofs.publish.Tie as tie

slice_aggregate_seek_writes : tie.Need-slice_bounds-seek_writes-end
slice_aggregate_seek_writes c = search rules

seek_writes_requires : tie.Need-seek_writes-new-requires
seek_writes_requires c κs = search rules

lack_requires : tie.Need-lack-lack-requires
lack_requires c κs = search rules

same_length : tie.Need-shape_of-hall-then-lack-ne0
same_length c = search rules

returns : tie.Need-returns-then-lack-ne0
returns c =
    lacking _ _ c.lack-lack.ensures c.if-lack-ne0.true

slice_aggregate_publish_writes : tie.Need-slice_bounds-publish_writes-end
slice_aggregate_publish_writes c = search rules

publish_writes_requires : tie.Need-publish_writes-requires
publish_writes_requires c κs =
    (offered c.requires c.lack-lack.ensures c.if-lack-ne0.false, c.seek_writes-new.ensures)

same_length_2 : tie.Need-shape_of-hall
same_length_2 c = search rules

returns_2 : tie.Need-returns
returns_2 c = search rules

pub publish_spec : {M : Type 1} → statement M
publish_spec =
    tie.close
    (tie.spec
    slice_aggregate_seek_writes
    seek_writes_requires
    lack_requires
    same_length
    returns
    slice_aggregate_publish_writes
    publish_writes_requires
    same_length_2
    returns_2)
