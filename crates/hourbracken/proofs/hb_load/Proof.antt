-- `store::load` does the call, and `loaded` is its answer as a plain struct.
use borrow.Author.Rules.{rules}
use Rattle.hourbracken.proofs.hb_load.Statement.{statement}
use Rattle.hourbracken.proofs.hb_load.Tie as tie

returns : tie.Need-returns
returns c =
    let load = c.load in
    record { answer = load.result; call = load.ensures; same = c.loaded.ensures }

pub hb_load_spec : {M : Type 1} → statement M
hb_load_spec =
    tie.close (tie.spec (λ c κs. search rules) (λ c κs. search rules) (λ c. search rules) (λ c. search rules) returns)
