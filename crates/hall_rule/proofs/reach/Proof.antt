-- What is clear at hand tells; or the next number is above the cutoff; or the starts tell from this version on.
use Prim.Native.Nat.{ℕ}
use native.Mathlib.Omega.{arith}
use borrow.Author.Rules.{rules}
use Rattle.model.specs.Bytes.{Bytes}
use Rattle.model.specs.State.{Version}
use Rattle.hall.specs.Layout.{versions_in}
use Rattle.hall.specs.Tables.{version_at}
use Rattle.hall_rule.proofs.Laws.Rule.{reach_told, reach_over, reach_from}
use Rattle.hall_rule.proofs.reach.Statement.{statement}
use Rattle.hall_rule.proofs.reach.Tie as tie

abbrev at_version : Bytes → (j : ℕ) → Version
at_version m j = version_at j (versions_in m)

returns : tie.Need-returns-then-next-high
returns c =
    reach_told _ _ (at_version c.args.m.now c.args.j) c.requires.clear (omega arith)

returns_2 : tie.Need-returns-then-cutoff-next
returns_2 c =
    reach_over _ _ (at_version c.args.m.now c.args.j) c.requires.clear (omega arith) (omega arith)

returns_3 : tie.Need-returns
returns_3 c =
    let args = c.args in
    reach_from _ _ (at_version args.m.now args.j) c.number_at.ensures c.clear_from.ensures

pub reach_spec : {M : Type 1} → statement M
reach_spec = tie.close (tie.spec returns returns_2 (λ c κs. search rules) (λ c κs. search rules) returns_3)
