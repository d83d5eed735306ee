-- A bad key and a start with no desk are refused, in that order; else the start's desk reads by `place_at`.
use borrow.Author.Rules.{rules}
use Rattle.memory.proofs.Laws.Tests.{refused, passed}
use Rattle.desk_writes.proofs.Laws.Ordered.{sound_ordered}
use Rattle.bridge.proofs.Laws.Desks.{shaped, found_below}
use Rattle.call_read.proofs.Laws.{bad_key, not_open_there, read_there}
use Rattle.call_read.proofs.place_in.Statement.{statement}
use Rattle.call_read.proofs.place_in.Tie as tie

pub place_in_spec : {M : Type 1} → statement M
place_in_spec =
    tie.close
    (tie.spec
    (λ c κs. search rules)
    (λ c. bad_key _ _ (search rules) _ _ (refused c.key_fits.ensures (rw c.if-not-key_fits.true)))
    (λ c κs. search (rules, shaped))
    (λ c. search rules)
    (λ c κs. search (rules, sound_ordered, found_below))
    (λ c. search rules)
    (λ c. search (rules, read_there, passed))
    (λ c. search (rules, not_open_there, passed)))
