-- `store::dump` does the call, and `dumped` is its answer as a plain struct.
use borrow.Author.Rules.{rules}
use Rattle.hourbracken.proofs.hb_dump.Statement.{statement}
use Rattle.hourbracken.proofs.hb_dump.Tie as tie

returns : tie.Need-returns
returns c =
    let dump = c.dump in
    record { answer = dump.result; call = dump.ensures; same = c.dumped.ensures }

pub hb_dump_spec : {M : Type 1} → statement M
hb_dump_spec = tie.close (tie.spec (λ c κs. search rules) (λ c κs. search rules) (λ c. search rules) returns)
