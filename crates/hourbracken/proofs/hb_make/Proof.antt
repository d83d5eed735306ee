-- `store::make` does the call, and `refusal` is its answer as one number.
use borrow.Author.Rules.{rules}
use Rattle.hourbracken.proofs.hb_make.Statement.{statement}
use Rattle.hourbracken.proofs.hb_make.Tie as tie

returns : tie.Need-returns
returns c =
    let make = c.make in
    record { answer = make.result; call = make.ensures; same = c.refusal.ensures }

pub hb_make_spec : {M : Type 1} → statement M
hb_make_spec =
    tie.close (tie.spec (λ c κs. search rules) (λ c κs. search rules) (λ c. search rules) (λ c. search rules) returns)
