-- Bytes stored after what a region holds, where zeros stand.
use mathlib.Core.Path.{◌≡◌, sym, ap, ◌∙◌}
use mathlib.Core.List.{◌++◌, append_assoc, append-nil}
use Prim.Native.Nat.{ℕ, ◌+◌, ◌-◌, ◌≤◌}
use native.Mathlib.Omega.{arith}
use lib.ListN.{length, length-append}
use Rattle.model.specs.Bytes.{Bytes}
use Rattle.memory.specs.Spans.{zeros, padded}
use Rattle.memory.proofs.Laws.Parts.{sets_mid}
use Rattle.memory.proofs.Laws.Spans.{zeros_add, length_zeros}
use Rattle.hall_place.specs.Placing.{fit_sets}
use Rattle.hall_place.proofs.Laws.{fit_yes}

-- b comes after what the region of n bytes holds
pub grow_fit : (a q : Bytes) (n at : ℕ) → length a ≡ at → (k b : Bytes) (p : ℕ) → p ≡ at + length k
    → length k + length b ≤ n → fit_sets (a ++ (padded n k ++ q)) p b ≡ a ++ (padded n (k ++ b) ++ q)
unfolding padded
grow_fit a q n at e k b p g h =
    let z : ℕ = n - (length k + length b) in
    let l : n - length k ≡ length b + z = omega arith in
    let r : length ((a ++ k) ++ (zeros (length b) ++ (zeros z ++ q))) ≡ at + (n + length q) =
    simp (length-append, length_zeros) (omega arith) in
    let f : a ++ ((k ++ zeros (n - length k)) ++ q) ≡ (a ++ k) ++ (zeros (length b) ++ (zeros z ++ q)) =
    rw (l, zeros_add (length b) z) (simp append_assoc) in
    rw (f, length-append k b) (fit_yes _ p b (omega arith)
    ∙ sets_mid (a ++ k) (zeros (length b)) (zeros z ++ q) b p (rw length-append (omega arith)) (length_zeros (length b))
    ∙ simp append_assoc)

-- zeros at the end of what a region holds are the region's own
pub padded_zeros : (n : ℕ) (k : Bytes) (j : ℕ) → length k + j ≤ n → padded n (k ++ zeros j) ≡ padded n k
unfolding padded
padded_zeros n k j h =
    let e : n - length k ≡ j + (n - (length k + j)) = omega arith in
    rw (length-append k (zeros j), length_zeros j, e, zeros_add j (n - (length k + j))) (append_assoc k (zeros j) (zeros (n - (length k + j))))

pub padded_padded : (n w : ℕ) (k b : Bytes) → length b ≤ w → length k + w ≤ n → padded n (k ++ padded w b) ≡ padded n (k ++ b)
unfolding padded
padded_padded n w k b h l =
    ap (padded n) (sym (append_assoc k b (zeros (w - length b)))) ∙ padded_zeros n (k ++ b) (w - length b) (rw length-append (omega arith))

-- a region that is full, and one after it
pub padded_two : (m n : ℕ) (k b : Bytes) → length k ≡ m → length b ≤ n
    → padded (m + n) (k ++ b) ≡ padded m k ++ padded n b
unfolding padded
padded_two m n k b e h =
    let f : m + n - length (k ++ b) ≡ n - length b = rw length-append (omega arith) in
    let z : m - length k ≡ 0 = omega arith in
    rw (f, z, append-nil k) (append_assoc k b (zeros (n - length b)))
