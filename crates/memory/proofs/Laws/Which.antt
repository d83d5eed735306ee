-- What an answered row says.
-- Assumes nothing.
use mathlib.Core.Path.{◌≡◌, sym, ap, ◌∙◌}
use Rattle.std.specs.Prelude.{Option, None, Some}
use Prim.Native.Nat.{ℕ}
use Rattle.memory.specs.Which.{placed}
use Rattle.memory.specs.declared.Which.{Which}
use Rattle.memory.specs.declared.Which.TheVariants.{At, Nothing}

module _ {r : Which} {o : Option ℕ} (e : placed r ≡ o) where
  pub placed_at : {i : ℕ} → r ≡ At i → o ≡ Some i
  placed_at q = sym e ∙ ap (λ (x : Which). placed x) q

  pub placed_none : r ≡ Nothing → o ≡ None
  placed_none q = sym e ∙ ap (λ (x : Which). placed x) q
