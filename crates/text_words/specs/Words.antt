-- Text parted by a mark, and text that grows.
use Rattle.std.specs.Prelude.{ℕ, ◌+◌, ◌-◌, ◌≤◌, ◌≡◌, cond, [], ◌∷◌, eqb, leb, length}
use Rattle.std.proofs.lemmas.List.Edits.{sets}
use Rattle.model.specs.Bytes.{Bytes}

abbrev pub space : ℕ
space = 32

-- what stands before the first mark; all, if there is none
unfoldable pub before : (mark : ℕ) → Bytes → Bytes
before m [] = []
before m (c ∷ s) = cond (eqb c m) [] (c ∷ before m s)

-- what stands after the first mark; nothing, if there is none
unfoldable pub after : (mark : ℕ) → Bytes → Bytes
after m [] = []
after m (c ∷ s) = cond (eqb c m) s (after m s)

-- so many bytes stand before the first mark; all, if there is none
pub record UpTo (mark : ℕ) (s : Bytes) (r : ℕ) : Type 0 where
  pub end : r ≡ length (before mark s)
  pub within : r ≤ length s

-- the text t became t', which has xs at `at`, up to r; or stayed, where it has no room for them; r is within t,
-- if `at` is
pub record Appended (t t' : Bytes) (at r : ℕ) (xs : Bytes) : Type 0 where
  pub end : r ≡ cond (leb (at + length xs) (length t)) (at + length xs) at
  pub text : t' ≡ cond (leb (at + length xs) (length t)) (sets t at xs) t
  pub within : r ≤ at + (length t - at)
