-- A key that does not follow decides; at the end no key is left.
use Rattle.memory.proofs.Laws.Tests.{refused, passed}
use Rattle.cells.proofs.Laws.Rows.{none_after, key_ready, follow_next}
use Rattle.cells.proofs.rows.all_follow.Goals as goal

pub key_in-key-requires : goal.key_in-key-requires
key_in-key-requires c = key_ready _ _ _ _ c.requires _ c.loop-i-test.true

pub returns-then-not-follows : goal.returns-then-not-follows
returns-then-not-follows c =
    rw (
      follow_next _ _ _ _ c.requires _ c.loop-i-test.true c.loop-i.last.now c.key_in-key.ensures,
      refused c.follows.ensures (rw c.if-not-follows.true),
    ) at c.loop-i.invariant

pub loop-i-preserved : goal.loop-i-preserved
loop-i-preserved c =
    rw (
      follow_next _ _ _ _ c.requires _ c.loop-i-test.true c.loop-i.last.now c.key_in-key.ensures,
      passed c.follows.ensures (rw c.if-not-follows.false),
    ) at c.loop-i.invariant

pub returns : goal.returns
returns c = rw (none_after _ _ _ _ c.loop-i.last.now c.loop-i-test.false) at c.loop-i.invariant
