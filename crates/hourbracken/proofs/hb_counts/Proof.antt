-- `store::counts` does the call, and `counted` is its answer as a plain struct.
use borrow.Author.Rules.{rules}
use Rattle.hourbracken.proofs.hb_counts.Statement.{statement}
use Rattle.hourbracken.proofs.hb_counts.Tie as tie

returns : tie.Need-returns
returns c =
    let counts = c.counts in
    record { answer = counts.result; call = counts.ensures; same = c.counted.ensures }

pub hb_counts_spec : {M : Type 1} → statement M
hb_counts_spec = tie.close (tie.spec (λ c κs. search rules) (λ c κs. search rules) returns)
