-- A product of two numbers by their halves of 32 bits.
use Rattle.std.proofs.Common.{◌≡◌, ℕ, ◌+◌, ◌*◌, ◌/◌, ◌%◌, ◌^◌, ◌<◌, sym, refl, ap, ◌∙◌, ap₂, lt_of_le_of_lt, le_of_lt, add_assoc, mul_assoc, mul_comm, add-mul, add_comm, mul-le-mul_left, mul-lt-mul_of_pos_right, div-add-mod', mul-add, mul_left_comm, arith, pow_pos, pow-add}
use mathlib.Core.Path.{subst⁻¹}
use native.Mathlib.Nat.{add_left_comm, add-mod, mul-add-mod_self_right}

-- the product of two numbers of k bits has k + k
pub below : (k : ℕ) {a b : ℕ} → a < 2 ^ k → b < 2 ^ k → a * b < 2 ^ (k + k)
below k {a} {b} ha hb =
    subst⁻¹ (λ (n : ℕ). a * b < n) (pow-add 2 k k)
    (lt_of_le_of_lt (mul-le-mul_left a (le_of_lt hb)) (mul-lt-mul_of_pos_right ha (pow_pos k)))

columns : (p a₀ a₁ b₀ b₁ : ℕ) → (a₁ * p + a₀) * (b₁ * p + b₀) ≡ a₁ * b₁ * (p * p) + (a₁ * b₀ + a₀ * b₁) * p + a₀ * b₀
columns p a₀ a₁ b₀ b₁ = simp (mul-add, add-mul, mul_assoc, mul_comm, mul_left_comm, add_assoc, add_comm, add_left_comm) refl

-- the columns, modulo 2 ^ 64: the upper one falls away, and of the middle one all but its low half
cut : (w x y z : ℕ) → ((x % 2 ^ 32 + y % 2 ^ 32) % 2 ^ 32 * 2 ^ 32 + z) % 2 ^ 64 ≡ (w * 2 ^ 64 + (x + y) * 2 ^ 32 + z) % 2 ^ 64
cut w x y z =
    let m : ℕ = (x + y) % 2 ^ 32 in
    let q : ℕ = (x + y) / 2 ^ 32 in
    let e : w * 2 ^ 64 + (x + y) * 2 ^ 32 + z ≡ (w + q) * 2 ^ 64 + (m * 2 ^ 32 + z) = omega (arith, div-add-mod' (x + y) (2 ^ 32)) in
    rw (← add-mod x y (2 ^ 32), e, mul-add-mod_self_right (w + q) (2 ^ 64) (m * 2 ^ 32 + z))

-- what is left of the product below 2 ^ 64
pub wrapped : (a b : ℕ) →
    ((a / 2 ^ 32 * (b % 2 ^ 32) % 2 ^ 32 + a % 2 ^ 32 * (b / 2 ^ 32) % 2 ^ 32) % 2 ^ 32 * 2 ^ 32 + a % 2 ^ 32 * (b % 2 ^ 32)) % 2 ^ 64 ≡ a * b % 2 ^ 64
wrapped a b =
    cut (a / 2 ^ 32 * (b / 2 ^ 32)) (a / 2 ^ 32 * (b % 2 ^ 32)) (a % 2 ^ 32 * (b / 2 ^ 32)) (a % 2 ^ 32 * (b % 2 ^ 32))
    ∙ ap (λ (n : ℕ). n % 2 ^ 64)
    (sym (columns (2 ^ 32) (a % 2 ^ 32) (a / 2 ^ 32) (b % 2 ^ 32) (b / 2 ^ 32))
    ∙ ap₂ (λ (x y : ℕ). x * y) (div-add-mod' a (2 ^ 32)) (div-add-mod' b (2 ^ 32)))
