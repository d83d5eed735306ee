-- A head written field by field.
-- Assumes nothing.
use Prim.Native.Nat.{ℕ, suc, ◌+◌, ◌%◌}
use native.Mathlib.Omega.{arith}
use mathlib.Core.Path.{◌≡◌, refl, sym, ap, ◌∙◌}
use mathlib.Core.List.{[], ◌∷◌, ◌++◌}
use lib.ListN.{set}
use lib.Seq.{sets}
use Rattle.model.specs.Sizes.{number_width}
use Rattle.model.specs.Bytes.{Bytes, bytes}
use Rattle.model_batch.specs.Answers.{code_width}
use Rattle.memory.proofs.Laws.Numbers.{length_bytes}
use Rattle.memory.proofs.Laws.Parts.{sets_append}
use Rattle.batch_heads.specs.Heads.{fields}

codes : (n f : ℕ) → bytes code_width n ++ bytes code_width f ≡ n % 256 ∷ f % 256 ∷ []
unfolding bytes
codes n f = refl

-- two numbers and two bytes, one after the other
pub fields_stored : (m : Bytes) (at a b n f : ℕ) {m₁ m₂ : Bytes} → m₁ ≡ sets m at (bytes number_width a)
    → m₂ ≡ sets m₁ (at + number_width) (bytes number_width b)
    → set (set m₂ (at + 16) (n % 256)) (at + 17) (f % 256) ≡ sets m at (fields a b n f)
unfolding fields
fields_stored m at a b n f {m₁} {m₂} p q =
    let e : at + 8 + 8 ≡ at + 16 = omega arith in
    let g : suc (at + 16) ≡ at + 17 = omega arith in
    let rest : Bytes = bytes code_width n ++ bytes code_width f in
    let one : sets m at (bytes number_width a ++ (bytes number_width b ++ rest)) ≡ sets m₁ (at + 8) (bytes number_width b ++ rest) =
    sets_append m at (bytes number_width a) (bytes number_width b ++ rest) ∙ rw (length_bytes, p) in
    let two : sets m₁ (at + 8) (bytes number_width b ++ rest) ≡ sets m₂ (at + 16) rest =
    sets_append m₁ (at + 8) (bytes number_width b) rest ∙ rw (length_bytes, q, e) in
    let three : sets m₂ (at + 16) rest ≡ set (set m₂ (at + 16) (n % 256)) (at + 17) (f % 256) =
    ap (sets m₂ (at + 16)) (codes n f) ∙ ap (λ (k : ℕ). set (set m₂ (at + 16) (n % 256)) k (f % 256)) g in
    sym (one ∙ two ∙ three)
