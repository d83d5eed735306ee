-- What the first pass leaves is what the second asks for; one after the other they trim every entry.
use borrow.Author.Rules.{rules}
use Rattle.hall_sweep.proofs.Laws.Whole.{trimmed_fits, swept}
use Rattle.hall_sweep.proofs.sweep_to.Statement.{statement}
use Rattle.hall_sweep.proofs.sweep_to.Tie as tie

close_requires : tie.Need-close-requires
close_requires c κs =
    let pre = c.requires in
    trimmed_fits pre.1 pre.0 c.trim.ensures

returns : tie.Need-returns
returns c =
    let pre = c.requires in
    swept pre.1 pre.0 c.trim.ensures c.close.ensures

pub sweep_to_spec : {M : Type 1} → statement M
sweep_to_spec = tie.close (tie.spec (λ c κs. search rules) close_requires (λ c. search rules) returns)
