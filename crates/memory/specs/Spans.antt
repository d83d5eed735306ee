-- Bytes that are zeros, that have zeros after them, or that cover the front of others.
use Rattle.std.specs.Prelude.{ℕ, ◌-◌, Bool, true, ◌&&◌, [], ◌∷◌, ◌++◌, eqb, length, drop, replicate}
use Rattle.model.specs.Bytes.{Bytes}

abbrev pub zeros : ℕ → Bytes
zeros n = replicate n 0

unfoldable pub all_zero : Bytes → Bool
all_zero [] = true
all_zero (b ∷ bs) = eqb b 0 && all_zero bs

-- bytes with zeros after them, n in all
unfoldable pub padded : ℕ → Bytes → Bytes
padded n bs = bs ++ zeros (n - length bs)

-- bs over the front of out: what comes after them stays
unfoldable pub overlay : (bs out : Bytes) → Bytes
overlay bs out = bs ++ drop (length bs) out
