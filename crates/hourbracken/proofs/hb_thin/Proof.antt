-- `store::thin` does the call, and `thinned` is its answer as a plain struct.
use borrow.Author.Rules.{rules}
use Rattle.hourbracken.proofs.hb_thin.Statement.{statement}
use Rattle.hourbracken.proofs.hb_thin.Tie as tie

returns : tie.Need-returns
returns c =
    let thin = c.thin in
    record { answer = thin.result; call = thin.ensures; same = c.thinned.ensures }

pub hb_thin_spec : {M : Type 1} → statement M
hb_thin_spec = tie.close (tie.spec (λ c κs. search rules) (λ c κs. search rules) (λ c. search rules) returns)
