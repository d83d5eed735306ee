-- `store::put` does the call, and `refusal` is its answer as one number.
use borrow.Author.Rules.{rules}
use Rattle.hourbracken.proofs.hb_put.Statement.{statement}
use Rattle.hourbracken.proofs.hb_put.Tie as tie

returns : tie.Need-returns
returns c =
    let put = c.put in
    record { answer = put.result; call = put.ensures; same = c.refusal.ensures }

pub hb_put_spec : {M : Type 1} → statement M
hb_put_spec = tie.close (tie.spec (λ c κs. search rules) (λ c κs. search rules) (λ c. search rules) returns)
