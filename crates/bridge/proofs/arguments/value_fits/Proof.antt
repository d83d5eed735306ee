-- The comparison of the length with the limit is the model's test, unfolded.
use mathlib.Core.Path.{refl}
use Rattle.model.specs.Sound.{value_fits}
use Rattle.bridge.proofs.arguments.value_fits.Statement.{statement}
use Rattle.bridge.proofs.arguments.value_fits.Tie as tie

pub value_fits_spec : {M : Type 1} → statement M
unfolding value_fits
value_fits_spec = tie.close (tie.spec (λ c. refl))
