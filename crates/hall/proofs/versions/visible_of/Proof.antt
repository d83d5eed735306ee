-- The newest version is tried first; the older ones are a run of rows, from the end before row i to its own.
use mathlib.Core.Path.{sym, ◌∙◌}
use native.Mathlib.Omega.{arith}
use Rattle.hall.specs.Layout.{keys_in, versions_in}
use Rattle.hall.proofs.Laws.Sound.{sound_shaped}
use Rattle.hall.proofs.Laws.Chains.{row_range, seen_newest, seen_older}
use Rattle.hall.proofs.versions.visible_of.Statement.{statement}
use Rattle.hall.proofs.versions.visible_of.Tie as tie

is_seen_requires : tie.Need-is_seen-requires
is_seen_requires c κs =
    let p = c.requires in (sound_shaped _ p.0, omega (arith, row_range _ p.0 _ p.1))

returns : tie.Need-returns-then-is_seen
returns c =
    let s = c.args in
    seen_newest s.start.0 s.i (keys_in s.m.now) (versions_in s.m.now)
    (sym c.is_seen.ensures ∙ c.if-is_seen.true)

end_before_requires : tie.Need-end_before-requires
end_before_requires c κs =
    let p = c.requires in (sound_shaped _ p.0, omega arith)

end_at_requires : tie.Need-end_at-requires
end_at_requires c κs = let p = c.requires in (sound_shaped _ p.0, p.1)

add_from : tie.Need-overflow_add-n
add_from c =
    let p = c.requires in
    let good = (sound_shaped _ p.0).good in
    omega (arith, row_range _ p.0 _ p.1)

add_to : tie.Need-overflow_add-n-2
add_to c =
    let p = c.requires in
    let good = (sound_shaped _ p.0).good in
    omega (arith, row_range _ p.0 _ p.1)

seen_between_requires : tie.Need-seen_between-requires
seen_between_requires c κs =
    let p = c.requires in
    let range = row_range _ p.0 _ p.1 in
    record { shaped = sound_shaped _ p.0; start = omega arith; end = omega arith }

returns_2 : tie.Need-returns
returns_2 c =
    let s = c.args in
    seen_older s.start.0 s.i (keys_in s.m.now) (versions_in s.m.now)
    (sym c.is_seen.ensures ∙ c.if-is_seen.false)
    c.key_count-n.ensures c.end_before.ensures c.end_at.ensures
    c.seen_between.ensures

pub visible_of_spec : {M : Type 1} → statement M
visible_of_spec =
    tie.close
    (tie.spec
    is_seen_requires
    returns
    (λ c κs. sound_shaped _ c.requires.0)
    end_before_requires
    add_from
    end_at_requires
    add_to
    seen_between_requires
    returns_2)
