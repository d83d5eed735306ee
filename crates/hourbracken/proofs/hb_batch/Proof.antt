-- `batch::batch` does the calls, and `batched` is its answer as a plain struct.
use borrow.Author.Rules.{rules}
use Rattle.hourbracken.proofs.hb_batch.Statement.{statement}
use Rattle.hourbracken.proofs.hb_batch.Tie as tie

returns : tie.Need-returns
returns c =
    let batch = c.batch in
    record { answer = batch.result; call = batch.ensures; same = c.batched.ensures }

pub hb_batch_spec : {M : Type 1} → statement M
hb_batch_spec =
    tie.close
    (tie.spec (λ c κs. search rules) (λ c κs. search rules) (λ c. search rules) (λ c. search rules) (λ c. search rules) returns)
