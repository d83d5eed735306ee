-- Free desks are zeros and set no bit, so over zeros only their count has to be stored.
use mathlib.Core.Path.{refl}
use borrow.Author.Rules.{rules}
use Rattle.desk.proofs.Laws.Desks.{made}
use Rattle.desk.proofs.desks.make_desks.Statement.{statement}
use Rattle.desk.proofs.desks.make_desks.Tie as tie

returns : tie.Need-returns
returns c =
    made c.args.m.now c.args.n c.requires.1
    (rw c.desk_place.ensures at c.clear.ensures) refl

pub make_desks_spec : {M : Type 1} → statement M
make_desks_spec =
    tie.close
    (tie.spec
    (λ c κs. search rules)
    (λ c κs. search rules)
    (λ c. search rules)
    (λ c. search rules)
    (λ c. search rules)
    returns)
