-- Version row i is the newest version of key row i, and `seek` finds that row.
use mathlib.Core.Path.{refl, sym, ◌∙◌}
use native.Mathlib.Omega.{arith}
use borrow.Author.Rules.{rules}
use Rattle.model.specs.State.{newest_of}
use Rattle.hall.proofs.Laws.Sound.{sound_shaped}
use Rattle.hall.proofs.Laws.Chains.{row_range, at_in, newest_at, look_none}
use Rattle.call_ask.proofs.newest_value.Statement.{statement}
use Rattle.call_ask.proofs.newest_value.Tie as tie

version_value_requires : tie.Need-version_value-requires
version_value_requires c κs =
    let pre = c.requires in
    let row = at_in _ pre _ _ (sym c.seek.ensures ∙ c.in-At.is) in
    (sound_shaped _ pre, omega (arith, row, row_range _ pre _ row))

returns : tie.Need-returns-in-At
returns c =
    let place = sym c.seek.ensures ∙ c.in-At.is in
    let (stands, inside) = c.version_value.ensures in
    (rw (newest_at _ c.requires _ _ place) stands, inside)

returns_2 : tie.Need-returns-in-Before
unfolding newest_of
returns_2 c =
    let place = sym c.seek.ensures ∙ c.in-Before.is in
    rw (look_none _ c.requires _ _ place) (refl, tt)

pub newest_value_spec : {M : Type 1} → statement M
newest_value_spec =
    tie.close
    (tie.spec
    (λ c κs. search rules)
    (λ c. search rules)
    version_value_requires
    returns
    (λ c. search rules)
    returns_2)
