-- Counted from the first older version, the place after those that stayed is the key's new end.
use borrow.Author.Rules.{rules}
use Rattle.model.specs.Sweeps.{goes}
use Rattle.hall_trim.proofs.Laws.Walk.{olders_fit, end_fits, key_done}
use Rattle.hall_trim.proofs.sweep_key.Statement.{statement}
use Rattle.hall_trim.proofs.sweep_key.Tie as tie

sweep_olders_requires : tie.Need-sweep_olders-requires
sweep_olders_requires c κs =
    let pre = c.requires in
    (olders_fit pre.fits _ pre.count, pre.readers)

set_end_requires : tie.Need-set_end-requires
set_end_requires c κs =
    let pre = c.requires in
    end_fits (goes _ _) pre.fits _ pre.count c.sweep_olders.ensures

returns : tie.Need-returns
returns c =
    let pre = c.requires in
    key_done (goes _ _) pre.fits _ pre.count c.sweep_olders.ensures c.set_end.ensures

pub sweep_key_spec : {M : Type 1} → statement M
sweep_key_spec =
    tie.close
    (tie.spec
    (λ c. search rules)
    (λ c. search rules)
    (λ c. search rules)
    sweep_olders_requires
    (λ c. search rules)
    set_end_requires
    (λ c. search rules)
    returns)
