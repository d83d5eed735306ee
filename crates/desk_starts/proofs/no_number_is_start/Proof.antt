-- No version before the first numbered in the range is a start; the others, if there are any, are tested.
use mathlib.Core.Path.{refl}
use borrow.Author.Rules.{rules}
use Rattle.hall.proofs.Laws.Sound.{sound_shaped}
use Rattle.desk_starts.proofs.Laws.{pass_over, none_between}
use Rattle.desk_starts.proofs.no_number_is_start.Statement.{statement}
use Rattle.desk_starts.proofs.no_number_is_start.Tie as tie

returns : tie.Need-returns-then-version_count-first
returns c =
    none_between _ _ c.requires.between
    (rw (c.version_count.ensures, c.first_between-first.ensures) at c.if-version_count-first.true)

none_starts_from_requires : tie.Need-none_starts_from-requires
none_starts_from_requires c κs =
    let p = c.requires in
    (p, c.mark_starts.ensures)

returns_2 : tie.Need-returns
returns_2 c =
    rw (c.none_starts_from.ensures, c.first_between-first.ensures)
    (pass_over _ _ c.requires.between)

pub no_number_is_start_spec : {M : Type 1} → statement M
no_number_is_start_spec =
    tie.close
    (tie.spec
    (λ c κs. c.requires.hall)
    (λ c κs. sound_shaped _ c.requires.hall)
    returns
    (λ c. refl)
    (λ c κs. (c.requires.shaped, refl))
    (λ c. search rules)
    none_starts_from_requires
    returns_2)
