-- `store::replay` does the call, and `replayed` is its answer as a plain struct.
use borrow.Author.Rules.{rules}
use Rattle.hourbracken.proofs.hb_replay.Statement.{statement}
use Rattle.hourbracken.proofs.hb_replay.Tie as tie

returns : tie.Need-returns
returns c =
    let replay = c.replay in
    record { answer = replay.result; call = replay.ensures; same = c.replayed.ensures }

pub hb_replay_spec : {M : Type 1} → statement M
hb_replay_spec =
    tie.close (tie.spec (λ c κs. search rules) (λ c κs. search rules) (λ c. search rules) (λ c. search rules) returns)
