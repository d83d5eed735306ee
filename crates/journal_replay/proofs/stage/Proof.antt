-- The first desk is free, so it is taken; it has no writes then, so it can have those of the body.
use borrow.Author.Rules.{rules}
use Rattle.journal_replay.proofs.Laws.Staged.{free_here, stages, staged_all}
use Rattle.journal_replay.proofs.stage.Statement.{statement}
use Rattle.journal_replay.proofs.stage.Tie as tie

take_desk_requires : tie.Need-take_desk-requires
take_desk_requires c κs =
    let pre = c.requires in (pre.1.shaped, free_here pre.1)

stage_writes_requires : tie.Need-stage_writes-requires
stage_writes_requires c κs =
    let pre = c.requires in
    stages pre.1 c.take_desk.ensures _ pre.0

returns : tie.Need-returns
returns c =
    let pre = c.requires in
    staged_all pre.1 c.take_desk.ensures _ pre.0 c.stage_writes.ensures

pub stage_spec : {M : Type 1} → statement M
stage_spec = tie.close (tie.spec take_desk_requires stage_writes_requires (λ c. search rules) returns)
