-- The cutoff is the model's; nobody reads below it.
use borrow.Author.Rules.{rules}
use Rattle.hall.proofs.Laws.Sound.{sound_shaped}
use Rattle.bridge.proofs.Laws.Desks.{shaped}
use Rattle.call_sweep.proofs.Laws.Readers.{no_readers}
use Rattle.call_sweep.proofs.Laws.Sweeps.{cutoff_is, cutoff_low, sweep_done}
use Rattle.call_sweep.proofs.sweep_in.Statement.{statement}
use Rattle.call_sweep.proofs.sweep_in.Tie as tie

trim_to_requires : tie.Need-trim_to-dropped-requires
trim_to_requires c κs =
    record {
      hall = search rules;
      low = cutoff_low _ _ c.counter.ensures c.lesser.ensures _
          c.least_start-cutoff.ensures;
      readers = no_readers _;
    }

pub sweep_in_spec : {M : Type 1} → statement M
sweep_in_spec =
    tie.close
    (tie.spec
    (λ c κs. search (rules, sound_shaped))
    (λ c κs. search rules)
    (λ c κs. search (rules, shaped))
    (λ c. search rules)
    trim_to_requires
    (λ c. search rules)
    (λ c. sweep_done _ _ _ (search rules) c.trim_to-dropped.ensures (search (rules, cutoff_is))))
