-- FNV-1a as published, 64 bits.
use Rattle.std.specs.Prelude.{ℕ, ◌*◌, ◌%◌, ◌^◌, [], ◌∷◌}
use Rattle.std.specs.Int.Bits.{bit_xor}
use Rattle.model.specs.Bytes.{Bytes}

-- from h on, each byte is xored in and the sum multiplied by the prime
unfoldable pub hash_from : (h : ℕ) → Bytes → ℕ
hash_from h [] = h
hash_from h (b ∷ bs) = hash_from (bit_xor h b * 0x0000_0100_0000_01B3 % 2 ^ 64) bs

abbrev pub hash_of : Bytes → ℕ
hash_of = hash_from 0xCBF2_9CE4_8422_2325
