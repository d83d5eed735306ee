-- The floor is raised, then the versions are swept: those of the hall before.
use borrow.Author.Rules.{rules}
use Rattle.hall.proofs.Laws.Sound.{sound_shaped}
use Rattle.call_sweep.proofs.Laws.Sweeps.{raised_sound, left_few, trims_done}
use Rattle.call_sweep.proofs.trim_to.Statement.{statement}
use Rattle.call_sweep.proofs.trim_to.Tie as tie

sweep_to_requires : tie.Need-sweep_to-left-requires
sweep_to_requires c κs =
    let pre = c.requires in
    (raised_sound pre.hall pre.low c.raise_floor.ensures, pre.readers)

pub trim_to_spec : {M : Type 1} → statement M
trim_to_spec =
    tie.close
    (tie.spec
    (λ c κs. search (rules, sound_shaped))
    (λ c κs. search rules)
    sweep_to_requires
    (λ c. search (rules, left_few))
    (λ c. search rules)
    (λ c. search (rules, trims_done)))
