-- What a sweep leaves of the older versions of a key.
use Rattle.std.specs.Prelude.{cond, List, [], ◌∷◌, ◌++◌}
use Rattle.model.specs.State.{Version, Chain, Entry}
use Rattle.model.specs.Sweeps.{Rule}
use Rattle.hall.specs.Layout.{older, latest}
use Rattle.hall.specs.Tables.{version_at}
use Rattle.hall_rule.specs.Older.{successor}

-- what a rule leaves of older versions, if it looks at successors and no further
unfoldable pub kept : Rule → (olders : List Version) → (newest : Version) → List Version
kept g [] n = []
kept g (v ∷ vs) n = cond (g v (successor vs n ∷ [])) (kept g vs n) (v ∷ kept g vs n)

-- a chain with that done, its newest version as it was
unfoldable pub trim_older : Rule → Chain → Chain
trim_older g l = kept g (older l) (version_at 0 (latest l)) ++ latest l

unfoldable pub trim_olders : Rule → List Entry → List Entry
trim_olders g [] = []
trim_olders g (e ∷ es) = record { key = e.key; chain = trim_older g e.chain } ∷ trim_olders g es
