-- In a sound store the header's two counts and the open desks are what the model counts.
use borrow.Author.Rules.{rules}
use Rattle.hall.proofs.Laws.Sound as hall_laws
use Rattle.bridge.proofs.Laws.Desks.{shaped}
use Rattle.call_count.proofs.Laws.{counts_told}
use Rattle.call_count.proofs.counts_in.Statement.{statement}
use Rattle.call_count.proofs.counts_in.Tie as tie

returns : tie.Need-returns
returns c =
    counts_told _ _ (search rules) c.key_count-keys.ensures c.version_count-versions.ensures
    c.open_desks.ensures

pub counts_in_spec : {M : Type 1} → statement M
counts_in_spec =
    tie.close
    (tie.spec
    (λ c κs. search (rules, hall_laws.sound_shaped))
    (λ c κs. search (rules, hall_laws.sound_shaped))
    (λ c κs. search (rules, shaped))
    returns)
