-- The record's writes are at the first desk when they are published, and the desk is free again afterwards.
use borrow.Author.Rules.{rules}
use Rattle.journal_replay.proofs.Laws.Published.{close_ready, offers, committed_as, desk_again}
use Rattle.journal_replay.proofs.do_record.Statement.{statement}
use Rattle.journal_replay.proofs.do_record.Tie as tie

publish_requires : tie.Need-publish-lack-requires
publish_requires c κs =
    let pre = c.requires in
    offers pre c.stage.ensures c.read64.ensures

close_desk_requires : tie.Need-close_desk-requires
close_desk_requires c κs =
    let pre = c.requires in
    close_ready pre c.stage.ensures

returns : tie.Need-returns
returns c =
    let pre = c.requires in
    let staged = c.stage.ensures in (
      committed_as pre staged c.read64.ensures c.publish-lack.ensures,
      desk_again pre staged c.close_desk.ensures,
    )

pub do_record_spec : {M : Type 1} → statement M
do_record_spec =
    tie.close
    (tie.spec
    (λ c κs. search rules)
    (λ c κs. search rules)
    publish_requires
    close_desk_requires
    (λ c. search rules)
    (λ c. search rules)
    returns)
