-- `store::sweep` does the call, and `swept` is its answer as a plain struct.
use borrow.Author.Rules.{rules}
use Rattle.hourbracken.proofs.hb_sweep.Statement.{statement}
use Rattle.hourbracken.proofs.hb_sweep.Tie as tie

returns : tie.Need-returns
returns c =
    let sweep = c.sweep in
    record { answer = sweep.result; call = sweep.ensures; same = c.swept.ensures }

pub hb_sweep_spec : {M : Type 1} → statement M
hb_sweep_spec = tie.close (tie.spec (λ c κs. search rules) (λ c κs. search rules) (λ c. search rules) returns)
