-- `store::begin` does the call, and `begun` is its answer as a plain struct.
use borrow.Author.Rules.{rules}
use Rattle.hourbracken.proofs.hb_begin.Statement.{statement}
use Rattle.hourbracken.proofs.hb_begin.Tie as tie

returns : tie.Need-returns
returns c =
    let begin = c.begin in
    record { answer = begin.result; call = begin.ensures; same = c.begun.ensures }

pub hb_begin_spec : {M : Type 1} → statement M
hb_begin_spec =
    tie.close (tie.spec (λ c κs. search rules) (λ c κs. search rules) (λ c. search rules) (λ c. search rules) returns)
