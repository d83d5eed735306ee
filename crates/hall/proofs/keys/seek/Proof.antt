-- In a sound hall the keys ascend, as `rows::seek` asks, and the rows that it searches are the key rows.
use Rattle.hall.proofs.Laws.Rows.{seekable, sought}
use Rattle.hall.proofs.Laws.Sound.{sound_shaped, keys_ascend}
use Rattle.hall.proofs.keys.seek.Statement.{statement}
use Rattle.hall.proofs.keys.seek.Tie as tie

seek_requires : tie.Need-seek-requires
seek_requires c κs =
    seekable _ (sound_shaped _ c.requires) c.key_count.ensures (keys_ascend _ c.requires)

returns : tie.Need-returns
returns c =
    sought _ (sound_shaped _ c.requires) c.key_count.ensures c.args.key.now
    c.seek.ensures

pub seek_spec : {M : Type 1} → statement M
seek_spec = tie.close (tie.spec (λ c κs. sound_shaped _ c.requires) seek_requires returns)
