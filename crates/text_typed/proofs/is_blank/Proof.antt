-- A space or a tab, as the two tests say.
use mathlib.Core.Path.{refl}
use Rattle.text_typed.proofs.is_blank.Statement.{statement}
use Rattle.text_typed.proofs.is_blank.Tie as tie

pub is_blank_spec : {M : Type 1} → statement M
is_blank_spec = tie.close (tie.spec (λ c. refl))
