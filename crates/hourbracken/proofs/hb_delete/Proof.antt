-- `store::delete` does the call, and `refusal` is its answer as one number.
use borrow.Author.Rules.{rules}
use Rattle.hourbracken.proofs.hb_delete.Statement.{statement}
use Rattle.hourbracken.proofs.hb_delete.Tie as tie

returns : tie.Need-returns
returns c =
    let delete = c.delete in
    record { answer = delete.result; call = delete.ensures; same = c.refusal.ensures }

pub hb_delete_spec : {M : Type 1} → statement M
hb_delete_spec = tie.close (tie.spec (λ c κs. search rules) (λ c κs. search rules) (λ c. search rules) returns)
