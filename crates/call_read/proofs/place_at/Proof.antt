-- The desk's own write of the key comes first; without one it is what the start sees in the hall.
use borrow.Author.Rules.{rules}
use Rattle.call_read.proofs.Laws.{own_row, own_read, held_read}
use Rattle.call_read.proofs.place_at.Statement.{statement}
use Rattle.call_read.proofs.place_at.Tie as tie

pub place_at_spec : {M : Type 1} → statement M
place_at_spec =
    tie.close
    (tie.spec
    (λ c κs. search rules)
    (λ c. search rules)
    (λ c κs. search (rules, own_row))
    (λ c κs. search rules)
    (λ c. search rules)
    (λ c κs. search rules)
    (λ c κs. search rules)
    (λ c. search (rules, own_read))
    (λ c. search (rules, held_read)))
