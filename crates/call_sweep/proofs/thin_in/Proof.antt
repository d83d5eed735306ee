-- The smaller of limit and counter is the model's, and the starts gathered are the open ones.
use native.Mathlib.Omega.{arith}
use borrow.Author.Rules.{rules}
use lib.ListN.{length-take}
use Rattle.hall.proofs.Laws.Sound.{sound_shaped}
use Rattle.bridge.proofs.Laws.Desks.{shaped}
use Rattle.call_sweep.proofs.Laws.Readers.{open_readers}
use Rattle.call_sweep.proofs.Laws.Sweeps.{limit_is, limit_low, thin_done}
use Rattle.call_sweep.proofs.thin_in.Statement.{statement}
use Rattle.call_sweep.proofs.thin_in.Tie as tie

trim_to_requires : tie.Need-trim_to-dropped-requires
trim_to_requires c κs =
    record {
      hall = search rules;
      low = limit_low _ _ c.counter.ensures c.lesser-cutoff.ensures;
      readers = open_readers _ _ c.least_start-clear.ensures c.gather-n.ensures.starts;
    }

pub thin_in_spec : {M : Type 1} → statement M
thin_in_spec =
    tie.close
    (tie.spec
    (λ c κs. search (rules, sound_shaped))
    (λ c κs. search rules)
    (λ c κs. search (rules, shaped))
    (λ c. search rules)
    (λ c κs. search (rules, shaped))
    (λ c. search rules)
    (λ c. simp length-take (omega (arith, c.gather-n.ensures.fits)))
    trim_to_requires
    (λ c. search rules)
    (λ c. thin_done _ _ _ (search rules) c.trim_to-dropped.ensures (search (rules, limit_is))
    (search rules)))
