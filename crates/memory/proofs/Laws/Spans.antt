-- Loops that store a run of bytes, from its front or from its back; zeros, bytes with zeros after them or over the
-- front of others.
-- Assumes nothing.
use mathlib.Core.Path.{◌≡◌, refl, sym, ◌∙◌}
use mathlib.Core.Bool.{Bool, true, false, ◌&&◌}
use mathlib.Core.List.{[], ◌∷◌, ◌++◌, append_assoc}
use Prim.Native.Nat.{ℕ, zero, suc, ◌+◌, ◌-◌, ◌≤◌, ◌<◌}
use native.Mathlib.Nat.{zero-add}
use native.Mathlib.Numerals.{add-one}
use native.Mathlib.Omega.{arith}
use borrow.Author.Tests.{eqb-true}
use lib.Dec.{eqb}
use lib.ListN.{length, take, drop, get_or, set, replicate, length-set, length-append, length-drop, length-replicate, replicate-append-replicate, drop_of_length-le}
use lib.Seq.{sets, sets-eq, take-suc, drop-cons}
use Rattle.model.specs.Bytes.{Bytes, part}
use Rattle.model.specs.Sound.{is_printable, are_printable}
use Rattle.memory.specs.Spans.{zeros, all_zero, padded, overlay}
use Rattle.memory.proofs.Laws.Numbers.{both_true}
use Rattle.memory.proofs.Laws.Parts.{sets_append, get_or_sets_below, get_or_sets_above, set_sets_below, sets_mid, part_add, part_cons, length_part}

-- ---- one more byte at the end of a run

pub take_more : (s : Bytes) (i : ℕ) → i < length s → take (i + 1) s ≡ take i s ++ (get_or s i 0 ∷ [])
take_more s i h = rw (add-one, take-suc s i 0)

pub replicate_more : (n a : ℕ) → replicate (n + 1) a ≡ replicate n a ++ (a ∷ [])
replicate_more n a = sym (replicate-append-replicate n 1 a)

pub part_more : (m : Bytes) (at n : ℕ) → at + n < length m → part m at (n + 1) ≡ part m at n ++ (get_or m (at + n) 0 ∷ [])
unfolding part
part_more m at n h = rw (part_add, part_cons m (at + n) 0 h)

-- ---- all bytes tested

pub printable_step : (s : Bytes) (i : ℕ) → i < length s → are_printable (drop i s) ≡ (is_printable (get_or s i 0) && are_printable (drop (i + 1) s))
unfolding are_printable
printable_step s i h = rw (add-one, drop-cons s i 0 h)

pub printable_end : (s : Bytes) (i : ℕ) → length s ≤ i → are_printable (drop i s) ≡ true
unfolding are_printable
printable_end s i h = rw (drop_of_length-le s h)

-- a flag that says whether all bytes so far are zeros
module _ (s : Bytes) (i : ℕ) {b : Bool} where
  pub flag_more : (z : Bool) → i < length s → (z && all_zero (drop i s)) ≡ b → ((z && eqb (get_or s i 0) 0) && all_zero (drop (i + 1) s)) ≡ b
  unfolding all_zero
  flag_more true h e = rw add-one (rw (drop-cons s i 0 h) at e)
  flag_more false h e = e

  pub flag_end : (z : Bool) → length s ≤ i → (z && all_zero (drop i s)) ≡ b → z ≡ b
  unfolding all_zero
  flag_end true h e = rw (drop_of_length-le s h) at e
  flag_end false h e = e

-- ---- a loop that stores a run byte by byte

-- i of n bytes are stored: m is m₀ with the run's first i at `at`
pub record Stored (m₀ : Bytes) (at : ℕ) (run : ℕ → Bytes) (n : ℕ) (m : Bytes) (i : ℕ) : Type 0 where
  pub below : i ≤ n
  pub long : length m ≡ length m₀
  pub same : m ≡ sets m₀ at (run i)

module _ {m₀ : Bytes} {at : ℕ} {run : ℕ → Bytes} {n : ℕ} where
  pub stored_none : run 0 ≡ [] → Stored m₀ at run n m₀ 0
  stored_none e = record { below = omega arith; long = refl; same = rw e }

  pub stored_more : {m : Bytes} {i : ℕ} (a : ℕ) → Stored m₀ at run n m i → i < n → length (run i) ≡ i → run (i + 1) ≡ run i ++ (a ∷ []) → Stored m₀ at run n (set m (at + i) a) (i + 1)
  stored_more {m} {i} a s h e f =
      record { below = omega arith; long = length-set m (at + i) a ∙ s.long; same = rw (s.same, f, sets_append m₀ at (run i) (a ∷ []), e) }

  pub stored_all : {m : Bytes} {i : ℕ} → Stored m₀ at run n m i → n ≤ i → m ≡ sets m₀ at (run n)
  stored_all {i = i} s h =
      let e : i ≡ n = omega arith in
      rw e at s.same

-- a run that is moved down: its next byte is still as it was
pub down_more : {m₀ m : Bytes} {at from n i : ℕ} → at ≤ from → from + n ≤ length m₀ → Stored m₀ at (part m₀ from) n m i → i < n
    → Stored m₀ at (part m₀ from) n (set m (at + i) (get_or m (from + i) 0)) (i + 1)
down_more {m₀} {m} {at} {from} {n} {i} h k s l =
    let e : length (part m₀ from i) ≡ i = length_part m₀ from i (omega arith) in
    let above : get_or m (from + i) 0 ≡ get_or m₀ (from + i) 0 = rw s.same (get_or_sets_above m₀ at (part m₀ from i) (from + i) 0 (omega arith)) in
    stored_more (get_or m (from + i) 0) s l e (rw above (part_more m₀ from i (omega arith)))

-- one more byte at the front of a run that is moved up
pub up_more : {d : Bytes} (l : Bytes) (i end width : ℕ) → suc i ≤ end → end + width ≤ length l → d ≡ sets l (suc i + width) (part l (suc i) (end - suc i))
    → set d (i + width) (get_or d i 0) ≡ sets l (i + width) (part l i (end - i))
up_more l i end width h k g =
    let p : end - i ≡ suc (end - suc i) = omega arith in
    let q : suc i + width ≡ suc (i + width) = omega arith in
    let r : i < length l = omega arith in
    let below : get_or (sets l (suc i + width) (part l (suc i) (end - suc i))) i 0 ≡ get_or l i 0 = get_or_sets_below l (suc i + width) (part l (suc i) (end - suc i)) i 0 (omega arith) in
    rw (g, below, set_sets_below l (suc i + width) (part l (suc i) (end - suc i)) (i + width) (get_or l i 0) (omega arith), p, part_cons l i (end - suc i) r, q)

-- ---- zeros

pub zero_step : (s : Bytes) (i : ℕ) → i < length s → all_zero (drop i s) ≡ (eqb (get_or s i 0) 0 && all_zero (drop (i + 1) s))
unfolding all_zero
zero_step s i h = rw (add-one, drop-cons s i 0 h)

pub zeros_add : (a b : ℕ) → zeros (a + b) ≡ zeros a ++ zeros b
zeros_add a b = sym (replicate-append-replicate a b 0)

pub length_zeros : (n : ℕ) → length (zeros n) ≡ n
length_zeros n = length-replicate {A = ℕ} n 0

-- a memory cleared up to its third run
pub sets_zeros : (m : Bytes) (a b c : ℕ) → a + b + c ≤ length m → sets m 0 (zeros (a + b + c)) ≡ zeros a ++ (zeros b ++ (zeros c ++ drop (a + b + c) m))
sets_zeros m a b c h =
    let l = length_zeros (a + b + c) in
    sets-eq (zeros (a + b + c)) m 0 (omega arith) ∙ rw (l, zero-add (a + b + c), zeros_add (a + b) c, zeros_add a b) (simp append_assoc)

pub all_zero_zeros : (n : ℕ) → all_zero (zeros n) ≡ true
unfolding all_zero
all_zero_zeros zero = refl
all_zero_zeros (suc n) = all_zero_zeros n

only_zeros : (s : Bytes) → all_zero s ≡ true → s ≡ zeros (length s)
unfolding all_zero
only_zeros [] h = refl
only_zeros (x ∷ s) h =
    let t = both_true (eqb x 0) (all_zero s) h in
    rw (eqb-true x 0 t.0, ← only_zeros s t.1)

pub zeros_of : (s : Bytes) (n : ℕ) → length s ≡ n → all_zero s ≡ true → s ≡ zeros n
zeros_of s n e h = rw (← e) (only_zeros s h)

-- ---- bytes with zeros after them

pub padded_none : (n : ℕ) → padded n [] ≡ zeros n
unfolding padded
padded_none n = let e : n - 0 ≡ n = omega arith in rw e

pub length_padded : (n : ℕ) (bs : Bytes) → length bs ≤ n → length (padded n bs) ≡ n
unfolding padded
length_padded n bs h = rw (length-append, length_zeros) (omega arith)

-- bytes that were stored, and zeros after them
pub sets_padded : (m : Bytes) (at : ℕ) (bs : Bytes) (n : ℕ) {m₁ m₂ : Bytes} → m₁ ≡ sets m at bs → m₂ ≡ sets m₁ (at + length bs) (zeros (n - length bs))
    → m₂ ≡ sets m at (padded n bs)
unfolding padded
sets_padded m at bs n p q = q ∙ rw (p, sets_append m at bs (zeros (n - length bs)))

-- bytes stored over padded bytes, with at least as many zeros as cover the old ones
pub store_padded : (a old c new : Bytes) (k n at : ℕ) → length a ≡ at → length old ≤ length new + k → length new + k ≤ n
    → sets (a ++ (padded n old ++ c)) at (new ++ zeros k) ≡ a ++ (padded n new ++ c)
unfolding padded
store_padded a old c new k n at e h l =
    let r : ℕ = n - (length new + k) in
    let g : ℕ = length new + k - length old in
    let p : n - length old ≡ g + r = omega arith in
    let q : n - length new ≡ k + r = omega arith in
    let f : length (old ++ zeros g) ≡ length (new ++ zeros k) = simp (length-append, length-replicate) (omega arith) in
    let s = sets_mid a (old ++ zeros g) (zeros r ++ c) (new ++ zeros k) at e f in
    rw (p, q, zeros_add g r, zeros_add k r) (simp append_assoc (simp append_assoc at s))

-- ---- bytes over the front of others

pub length_over : (bs out : Bytes) → length bs ≤ length out → length (overlay bs out) ≡ length out
unfolding overlay
length_over bs out h = rw (length-append, length-drop) (omega arith)

pub over_sets : (out bs : Bytes) → length bs ≤ length out → sets out 0 bs ≡ overlay bs out
unfolding overlay
over_sets out bs h = rw (sets-eq bs out 0 (omega arith), zero-add)
