-- `store::abort` does the call, and `refusal` is its answer as one number.
use borrow.Author.Rules.{rules}
use Rattle.hourbracken.proofs.hb_abort.Statement.{statement}
use Rattle.hourbracken.proofs.hb_abort.Tie as tie

returns : tie.Need-returns
returns c =
    let abort = c.abort in
    record { answer = abort.result; call = abort.ensures; same = c.refusal.ensures }

pub hb_abort_spec : {M : Type 1} → statement M
hb_abort_spec = tie.close (tie.spec (λ c κs. search rules) (λ c κs. search rules) (λ c. search rules) returns)
