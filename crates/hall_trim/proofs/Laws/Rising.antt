-- Each chain of a sound hall rises.
-- Assumes nothing.
use mathlib.Core.List.{List, [], ◌∷◌, ◌++◌}
use Prim.Native.Nat.{ℕ, zero, suc, ◌≤◌, ◌<◌}
use native.Mathlib.Omega.{arith}
use lib.ListN.{length, get_or}
use Rattle.model.specs.Bytes.{Bytes}
use Rattle.model.specs.State.{Chain, Entry}
use Rattle.model.specs.History.{Rising}
use Rattle.model_laws.proofs.Entries.{keys_of}
use Rattle.model_laws.proofs.Gone.{Rise, rise_head, rise_tail}
use Rattle.model_laws.proofs.Sound.{Ascending}
use Rattle.hall.specs.Tables.{no_entry, version_at}

abbrev pub AllRising : (hi : ℕ) → List Entry → Type 0
AllRising hi [] = Unit {0}
AllRising hi (e ∷ es) = Rising 0 hi e.chain × AllRising hi es

pub all_rising : (hi : ℕ) (last : Bytes) (es : List Entry) → Ascending last (keys_of es) → Rise 0 [] hi es → AllRising hi es
unfolding keys_of
all_rising hi last [] a r = tt
all_rising hi last (e ∷ es) a r =
    (rise_head 0 [] hi e es r, all_rising hi e.key es a.2 (rise_tail 0 [] hi e es a.2 r))

pub rising_at : (hi : ℕ) (es : List Entry) → AllRising hi es → (i : ℕ) → i < length es → Rising 0 hi (get_or es i no_entry).chain
rising_at hi [] r i h = absurd (omega arith)
rising_at hi (e ∷ es) r zero h = r.0
rising_at hi (e ∷ es) r (suc i) h = rising_at hi es r.1 i (omega arith)

-- the next number is the larger
pub rising_next : (lo hi : ℕ) (xs ys : Chain) → Rising lo hi (xs ++ ys) → (b : ℕ) → suc b < length xs
    → (version_at b xs).number ≤ (version_at (suc b) xs).number
rising_next lo hi [] ys r b h = absurd (omega arith)
rising_next lo hi (x ∷ []) ys r b h = absurd (omega arith)
rising_next lo hi (x ∷ y ∷ xs) ys r zero h = omega (arith, r.1.0)
rising_next lo hi (x ∷ y ∷ xs) ys r (suc b) h = rising_next x.number hi (y ∷ xs) ys r.1 b (omega arith)
