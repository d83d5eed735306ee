-- `call_ask::place` says where the newest value stands, and `found` tells kind and place together.
use borrow.Author.Rules.{rules}
use Rattle.hourbracken.proofs.hb_newest.Statement.{statement}
use Rattle.hourbracken.proofs.hb_newest.Tie as tie

returns : tie.Need-returns
returns c =
    let place = c.place in
    record { answer = place.result; call = place.ensures; same = c.found.ensures }

pub hb_newest_spec : {M : Type 1} → statement M
hb_newest_spec = tie.close (tie.spec (λ c κs. search rules) (λ c κs. search rules) returns)
