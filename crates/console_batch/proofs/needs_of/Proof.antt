-- A batch that is accepted has no more records than there may be, and there are as many kinds and marks.
use mathlib.Core.Path.{◌≡◌}
use Prim.Native.Nat.{ℕ, ◌≤◌}
use native.Mathlib.Omega.{arith}
use borrow.Author.Rules.{rules}
use Rattle.model.specs.Bytes.{Bytes}
use Rattle.model_batch.specs.Items.{max_items}
use Rattle.batch_items.specs.declared.Checked.{Checked}
use Rattle.batch_items.specs.declared.Checked.TheVariants.{Items}
use Rattle.batch_items.specs.Clauses.{Checks}
use Rattle.console_batch.proofs.needs_of.Statement.{statement}
use Rattle.console_batch.proofs.needs_of.Tie as tie

few : (x begins : Bytes) {r : Checked} {n w : ℕ} → r ≡ Items n w → Checks x begins r → n ≤ max_items
few x begins e c = (rw e at c).few

gather_requires : tie.Need-gather-requires
gather_requires c κs =
    let count-few = few _ _ c.in-Items.is c.check.ensures in
    (omega (arith, count-few), omega (arith, count-few))

returns : tie.Need-returns-in-Items
returns c =
    few _ _ c.in-Items.is c.check.ensures

pub needs_of_spec : {M : Type 1} → statement M
needs_of_spec =
    tie.close
    (tie.spec
    (λ c. search rules)
    (λ c κs. search rules)
    (λ c. search rules)
    (λ c. search rules)
    gather_requires
    (λ c. search rules)
    (λ c. search rules)
    returns
    (λ c. search rules))
