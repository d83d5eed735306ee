-- SplitMix64 as published, modulo 2 to the 64 (docs/RULES.md, 8.2).
use Rattle.std.specs.Prelude.{ℕ, ◌+◌, ◌*◌, ◌/◌, ◌%◌, ◌^◌, bit_xor}
use Rattle.arithmetic.specs.Modulus.{modulus}
use Rattle.workload_splitmix.specs.declared.Drawn.{Drawn}

-- z xored with its shift right by k
abbrev pub folded : (z k : ℕ) → ℕ
folded z k = bit_xor z (z / 2 ^ k)

abbrev pub stepped : ℕ → ℕ
stepped state = (state + 0x9E37_79B9_7F4A_7C15) % modulus

abbrev pub mixed : ℕ → ℕ
mixed s =
    let y = folded s 30 * 0xBF58_476D_1CE4_E5B9 % modulus in
    let z = folded y 27 * 0x94D0_49BB_1331_11EB % modulus in
    folded z 31

abbrev pub drawn : (state : ℕ) → Drawn
drawn state = record { state = stepped state; out = mixed (stepped state) }
