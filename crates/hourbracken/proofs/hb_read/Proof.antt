-- `call_read::place` says where the value stands, and `found` tells kind and place together.
use borrow.Author.Rules.{rules}
use Rattle.hourbracken.proofs.hb_read.Statement.{statement}
use Rattle.hourbracken.proofs.hb_read.Tie as tie

returns : tie.Need-returns
returns c =
    let place = c.place in
    record { answer = place.result; call = place.ensures; same = c.found.ensures }

pub hb_read_spec : {M : Type 1} → statement M
hb_read_spec = tie.close (tie.spec (λ c κs. search rules) (λ c κs. search rules) returns)
