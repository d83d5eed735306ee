-- A desk's writes ascend by key, as `rows::seek` asks, and the rows that it searches are this desk's writes.
use borrow.Author.Rules.{rules}
use Rattle.desk_writes.proofs.Laws.Writes.{seekable, sought}
use Rattle.desk_writes.proofs.own_write.Statement.{statement}
use Rattle.desk_writes.proofs.own_write.Tie as tie

seek_requires : tie.Need-seek-requires
seek_requires c κs =
    rw c.writes_place.ensures
    (seekable _ c.requires.0.shaped _ c.requires.1 c.write_count.ensures (c.requires.0.ascend _))

returns : tie.Need-returns
returns c =
    sought _ c.requires.0.shaped _ c.requires.1 c.write_count.ensures
    c.args.key.now (rw c.writes_place.ensures at c.seek.ensures)

pub own_write_spec : {M : Type 1} → statement M
own_write_spec = tie.close (tie.spec (λ c κs. search rules) (λ c κs. search rules) seek_requires returns)
