-- The key's row, then the version of it that the start sees; without either there is nothing to see.
use mathlib.Core.Path.{sym, ◌∙◌}
use borrow.Author.Rules.{rules}
use Rattle.hall.proofs.Laws.Sound.{sound_shaped}
use Rattle.hall_values.proofs.Seen.{HasRow, no_row_lem, row_there, none_seen, version_there, one_seen}
use Rattle.hall_values.proofs.seen_in.Statement.{statement}
use Rattle.hall_values.proofs.seen_in.Tie as tie

abbrev start : tie.In-At → tie.Start
start c = c.before.before.before.before

found : (c : tie.In-At) → HasRow (start c).args.hall.now (start c).args.key.now c.in-At.i
found c = record { sound = (start c).requires; row = sym c.seek.ensures ∙ c.in-At.is }

version_value_requires : tie.Need-version_value-requires
version_value_requires c κs =
    let row = found c.before.before in
    (sound_shaped _ row.sound, version_there row _ c.visible_of.ensures c.in-At-visible_of.is)

returns : tie.Need-returns-in-At-visible_of
returns c =
    one_seen (found c.before.before.before) _ c.visible_of.ensures c.in-At-visible_of.is
    c.version_value.result c.version_value.ensures

returns_2 : tie.Need-returns-in-Nothing
returns_2 c =
    none_seen (found c.before.before) _ c.visible_of.ensures c.in-Nothing.is

returns_3 : tie.Need-returns-in-Before
returns_3 c =
    no_row_lem c.requires _ _ c.seek.ensures c.in-Before.is

pub seen_in_spec : {M : Type 1} → statement M
seen_in_spec =
    tie.close
    (tie.spec
    (λ c κs. search rules)
    (λ c. search rules)
    (λ c κs. ((found c).sound, row_there (found c)))
    (λ c. search rules)
    version_value_requires
    (λ c. search rules)
    (λ c. search rules)
    returns
    returns_2
    returns_3)
