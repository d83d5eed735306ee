-- Which row of a table code answers, if any.
use Rattle.std.specs.Prelude.{ℕ, Option, None, Some}
use Rattle.memory.specs.declared.Which.{Which}
use Rattle.memory.specs.declared.Which.TheVariants.{At, Nothing}

abbrev pub placed : Which → Option ℕ
placed (At i) = Some i
placed Nothing = None
