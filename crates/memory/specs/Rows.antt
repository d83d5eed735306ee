-- A table in a memory: rows of one width, one after the other.
use Rattle.std.specs.Prelude.{ℕ, zero, suc, ◌+◌, ◌≡◌, List, [], ◌∷◌, ◌++◌, length}
use Rattle.model.specs.Bytes.{Bytes, part}

-- the n rows of w bytes that start at `at`
unfoldable pub rows : Bytes → (at w n : ℕ) → List Bytes
rows m at w zero = []
rows m at w (suc n) = part m at w ∷ rows m (at + w) w n

-- the bytes of rows
unfoldable pub joined : List Bytes → Bytes
joined [] = []
joined (r ∷ rs) = r ++ joined rs

-- P holds of each element
abbrev pub Each : {A : Type 0} → (A → Type 0) → List A → Type 0
Each P [] = Unit {0}
Each P (x ∷ xs) = P x × Each P xs

-- each row has w bytes
unfoldable pub Sized : ℕ → List Bytes → Type 0
Sized w rs = Each (λ (r : Bytes). length r ≡ w) rs

-- x put in before place i
unfoldable pub insert_at {ℓ} : {A : Type ℓ} → ℕ → A → List A → List A
insert_at zero x xs = x ∷ xs
insert_at (suc i) x [] = x ∷ []
insert_at (suc i) x (y ∷ ys) = y ∷ insert_at i x ys
