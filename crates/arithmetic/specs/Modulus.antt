-- The modulus of 64-bit arithmetic.
use Rattle.std.specs.Prelude.{ℕ, ◌^◌}

abbrev pub modulus : ℕ
modulus = 2 ^ 64
