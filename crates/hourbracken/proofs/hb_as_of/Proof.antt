-- The place that the call found, as the struct that crosses.
use borrow.Author.Rules.{rules}
use Rattle.hourbracken.proofs.hb_as_of.Statement.{statement}
use Rattle.hourbracken.proofs.hb_as_of.Tie as tie

returns : tie.Need-returns
returns c =
    let at_place = c.place in
    record { answer = at_place.result; call = at_place.ensures; same = c.found.ensures }

pub hb_as_of_spec : {M : Type 1} → statement M
hb_as_of_spec = tie.close (tie.spec (λ c κs. search rules) (λ c κs. search rules) returns)
