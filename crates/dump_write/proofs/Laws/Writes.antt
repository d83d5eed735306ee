-- Bytes written over an output, record after record.
-- Assumes nothing.
use mathlib.Core.Path.{◌≡◌, refl, sym, ap, ◌∙◌}
use mathlib.Core.List.{[], ◌++◌, append_assoc, append-nil}
use Prim.Native.Nat.{ℕ, ◌+◌, ◌-◌, ◌≤◌}
use native.Mathlib.Nat.{zero-add}
use native.Mathlib.Omega.{arith}
use borrow.Rule.Slice.PartMut.{mid_of, put_mid, Post-is}
use lib.ListN.{length, take, drop, length-append, length-drop}
use lib.Seq.{sets, drop-append-add, take-append_seam, drop-append_seam, drop-drop, take_all, drop-length}
use Rattle.model.specs.Bytes.{Bytes}
use Rattle.memory.proofs.Laws.Parts.{sets_append}
use Rattle.dump_write.specs.Over.{Wrote}
use Rattle.memory.proofs.Laws.Spans.{length_over, over_sets}
use Rattle.memory.specs.Spans.{overlay}

-- two fields, and three, stored at the front
pub over_pair : (out a b : Bytes) {p : ℕ} {o₁ o₂ : Bytes} → length a ≡ p → length (a ++ b) ≤ length out
    → o₁ ≡ sets out 0 a → o₂ ≡ sets o₁ p b → o₂ ≡ overlay (a ++ b) out
over_pair out a b e h x y =
    y ∙ rw (x, ← e) (sym (rw (zero-add) at (sets_append out 0 a b))) ∙ over_sets out (a ++ b) h

pub over_fields : (out a b c : Bytes) {p q : ℕ} {o₁ o₂ o₃ : Bytes} → length a ≡ p → p + length b ≡ q → length (a ++ (b ++ c)) ≤ length out
    → o₁ ≡ sets out 0 a → o₂ ≡ sets o₁ p b → o₃ ≡ sets o₂ q c → o₃ ≡ overlay (a ++ (b ++ c)) out
over_fields out a b c e f h x y z =
    z ∙ rw (y, x, ← f, ← e) (sym (rw (zero-add) at (sets_append out 0 a (b ++ c)) ∙ sets_append (sets out 0 a) (length a) b c)) ∙ over_sets out (a ++ (b ++ c)) h

-- over what was written before
over_over : (a b out : Bytes) → length a ≤ length b → overlay b (overlay a out) ≡ overlay b out
unfolding overlay
over_over a b out h =
    let e : length b ≡ length a + (length b - length a) = omega arith in
    let f : drop (length b) (a ++ drop (length a) out) ≡ drop (length b) out =
    rw e (rw (drop-append-add a (drop (length a) out) (length b - length a), drop-drop)) in
    rw f

-- a field stored behind what was written
pub over_after : (out a b : Bytes) {o₁ o₂ : Bytes} {n : ℕ} → Wrote a out o₁ n → length (a ++ b) ≤ length out
    → o₂ ≡ sets o₁ n b → o₂ ≡ overlay (a ++ b) out
over_after out a b w h e =
    let l : length a ≤ length out = omega (arith, length-append a b) in
    over_pair out a b (sym w.count) h (w.bytes ∙ sym (over_sets out a l)) e

-- four fields
pub over_four : (out a b c d : Bytes) {p q r : ℕ} {o₁ o₂ o₃ o₄ : Bytes} → length a ≡ p → p + length b ≡ q → q + length c ≡ r
    → length (a ++ (b ++ (c ++ d))) ≤ length out → o₁ ≡ sets out 0 a → o₂ ≡ sets o₁ p b → o₃ ≡ sets o₂ q c → o₄ ≡ sets o₃ r d
    → o₄ ≡ overlay (a ++ (b ++ (c ++ d))) out
over_four out a b c d {r = r} {o₃ = o₃} e f g h x y z w =
    let s : (a ++ (b ++ c)) ++ d ≡ a ++ (b ++ (c ++ d)) = simp append_assoc in
    let l : length (a ++ (b ++ c)) ≡ r = rw (length-append, length-append) (omega arith) in
    let m : length ((a ++ (b ++ c)) ++ d) ≤ length out = rw s h in
    let k : length (a ++ (b ++ c)) ≤ length out = omega (arith, length-append (a ++ (b ++ c)) d) in
    rw s at
    (over_after out (a ++ (b ++ c)) d (record { count = sym l; bytes = over_fields out a b c e f k x y z }) m w)

-- what is written into the rest comes after what is there
over_more : (a b out : Bytes) → take (length a) (overlay a out) ++ overlay b (drop (length a) (overlay a out)) ≡ overlay (a ++ b) out
unfolding overlay
over_more a b out = rw (take-append_seam, drop-append_seam, drop-drop, length-append, append_assoc)

-- ---- record after record, each into the rest that is lent

-- of the output `before`, where k bytes were written: all of `whole` but `rest` is written
pub record Written (whole rest before out : Bytes) (k at : ℕ) : Type 0 where
  pub front : Bytes
  pub split : whole ≡ front ++ rest
  pub wrote : Wrote front before out at
  pub inside : at + length rest ≤ length out
  pub same : length out ≡ length before
  pub later : k ≤ at

-- the first bytes of `whole` are written
pub written_first : {whole q rest d out : Bytes} {k : ℕ} → Wrote q d out k → whole ≡ q ++ rest → length whole ≤ length d → Written whole rest out out k k
written_first {whole} {q} {rest} {d} {out} x e h =
    let l = simp length-append at (ap length e) in
    let n : length out ≡ length d = ap length x.bytes ∙ length_over q d (omega arith) in
    record {
      front = q;
      split = e;
      wrote = record { count = x.count; bytes = x.bytes ∙ rw x.bytes (sym (over_over q q d (omega arith))) };
      inside = omega arith;
      same = refl;
      later = omega arith;
    }

pub written_all : {whole rest q d before out : Bytes} {k at : ℕ} → Wrote q d before k → rest ≡ [] → Written whole rest before out k at → Wrote whole d out at
written_all {whole} {rest} {q} {d} x e w =
    let f : w.front ≡ whole = sym (w.split ∙ rw e (append-nil w.front)) in
    let y = rw f at w.wrote in
    let l = w.later in
    record { count = y.count; bytes = y.bytes ∙ rw x.bytes (over_over q whole d (omega arith)) }

-- the rest that is lent, and the whole when it is back
rest_lent : (at : ℕ) (out : Bytes) → mid_of at (length out - at) out ≡ drop at out
rest_lent at out = take_all (length out - at) (drop at out) (simp length-drop (omega arith))

rest_back : (at : ℕ) (out after : Bytes) → at ≤ length out → put_mid at (length out - at) out after ≡ take at out ++ after
rest_back at out after h = rw (Post-is at (length out) out h, drop-length out, append-nil after)

module _ {whole rest before out : Bytes} {k at : ℕ} (w : Written whole rest before out k at) (q after : Bytes) (e : rest ≡ q ++ after) where
  rest_length : length rest ≡ length q + length after
  rest_length = simp length-append at (ap length e)

  pub lent_room : length q ≤ length (mid_of at (length out - at) out)
  lent_room = rw (rest_lent at out, length-drop) (omega (arith, rest_length, w.inside))

  pub written_more : {last : Bytes} {n : ℕ} → Wrote q (mid_of at (length out - at) out) last n
      → Written whole after before (put_mid at (length out - at) out last) k (at + n)
  written_more {last} {n} x =
      let p = w.wrote in
      let i = w.inside in
      let c : at + n ≡ length (w.front ++ q) = rw length-append (omega arith) in
      let b : put_mid at (length out - at) out last ≡ overlay (w.front ++ q) before =
      rest_back at out last (omega arith) ∙ rw (x.bytes, rest_lent at out, p.count, p.bytes, over_more w.front q before) in
      let l : length (put_mid at (length out - at) out last) ≡ length before = ap length b ∙ length_over (w.front ++ q) before (omega (arith, rest_length, x.count, w.same)) in
      record {
        front = w.front ++ q;
        split = w.split ∙ rw (e, append_assoc);
        wrote = record { count = c; bytes = b };
        inside = omega (arith, rest_length, x.count, w.same);
        same = l;
        later = omega arith;
      }
