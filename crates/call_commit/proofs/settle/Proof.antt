-- No write or a clash only closes the desk; writes that nothing opposes are published where there is room. The output
-- has what was listed on the way.
use borrow.Author.Rules.{rules}
use Rattle.commit_writes.proofs.Laws.Writes.{desks_shaped, ready}
use Rattle.call_commit.proofs.Laws.Commit.{few_places, closed_ended, closed_lists, settled_lists, conflict_ended, unopposed}
use Rattle.call_commit.proofs.settle.Statement.{statement}
use Rattle.call_commit.proofs.settle.Tie as tie

returns : tie.Need-returns-then-write_count-eq0
returns c = (
  closed_ended c.requires c.close_desk.ensures _ _ c.write_count.ensures
      c.if-write_count-eq0.true,
  closed_lists c.requires _ _ c.write_count.ensures c.if-write_count-eq0.true,
)

seek_writes_requires : tie.Need-seek_writes-new-requires
seek_writes_requires c κs =
    let pre = c.requires in
    (ready pre, few_places pre)

list_clashes_requires : tie.Need-list_clashes-count-requires
list_clashes_requires c κs =
    (ready c.requires, c.seek_writes-new.ensures.sought)

close_desk_requires_2 : tie.Need-close_desk-requires-then-count-gt0
close_desk_requires_2 c κs =
    desks_shaped c.requires

returns_2 : tie.Need-returns-then-count-gt0
returns_2 c =
    let pre = c.requires in (
      conflict_ended pre c.write_count.ensures c.if-write_count-eq0.false
          c.list_clashes-count.ensures _ c.close_desk-then-count-gt0.ensures c.if-count-gt0.true _,
      settled_lists pre c.write_count.ensures c.if-write_count-eq0.false
          c.list_clashes-count.ensures _,
    )

publish_requires : tie.Need-publish-requires
publish_requires c κs = (
  unopposed c.requires c.write_count.ensures
      c.if-write_count-eq0.false c.list_clashes-count.ensures c.if-count-gt0.false,
  c.seek_writes-new.ensures,
)

returns_3 : tie.Need-returns
returns_3 c = (
  c.publish.ensures,
  settled_lists c.requires c.write_count.ensures
      c.if-write_count-eq0.false c.list_clashes-count.ensures _,
)

pub settle_spec : {M : Type 1} → statement M
settle_spec =
    tie.close
    (tie.spec
    (λ c κs. desks_shaped c.requires)
    (λ c κs. desks_shaped c.requires)
    (λ c. search rules)
    returns
    (λ c. search rules)
    seek_writes_requires
    (λ c. search rules)
    list_clashes_requires
    close_desk_requires_2
    (λ c. search rules)
    (λ c. search rules)
    (λ c. search rules)
    returns_2
    (λ c. search rules)
    publish_requires
    (λ c. search rules)
    (λ c. search rules)
    (λ c. search rules)
    (λ c. search rules)
    returns_3)
