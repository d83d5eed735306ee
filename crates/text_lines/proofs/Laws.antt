-- What the code finds is the line, and what is held, that the definitions say.
-- Assumes nothing.
use mathlib.Core.Path.{◌≡◌, refl, ◌∙◌}
use mathlib.Core.Bool.{true, false, not}
use mathlib.Core.List.{[], ◌∷◌}
use Rattle.std.specs.Prelude.{None, Some}
use Prim.Native.Nat.{ℕ, suc, ◌+◌, ◌-◌, ◌≤◌, ◌<◌}
use native.Mathlib.Nat.{sub-zero, zero-add}
use native.Mathlib.Omega.{arith}
use borrow.Author.Tests.{not-true, not-false, lt-ltb, le-ltb}
use lib.Dec.{eqb, ltb, leb-suc-suc}
use lib.ListN.{length, take, drop, length-drop}
use lib.Seq.{sets}
use Rattle.model.specs.Bytes.{Bytes, part}
use Rattle.model.specs.State.{given}
use Rattle.model.proofs.Cases.{by_bool}
use Rattle.memory.proofs.Laws.Parts.{length_part, part_sets}
use Rattle.text_words.specs.Words.{before, UpTo}
use Rattle.text_words.proofs.Laws.Words.{tail}
use Rattle.text_lines.specs.declared.Held.{Held}
use Rattle.text_lines.specs.Lines.{newline, newline_in, line_at, grown}
use Rattle.text_lines.specs.Held.{Within, Ends, Fronted, Arrived}

-- ---- the first newline, by the bytes before it

newline_is : (s : Bytes) → newline_in s ≡ given (ltb (length (before newline s)) (length s)) (length (before newline s))
unfolding newline_in before
newline_is [] = refl
newline_is (c ∷ s) =
    by_bool (eqb c newline)
    (λ e. rw (e, lt-ltb 0 (suc (length s)) (omega arith)))
    (λ e. rw (e, newline_is s, leb-suc-suc _ (length s)) (by_bool (ltb (length (before newline s)) (length s)) (λ b. rw b) (λ b. rw b)))

-- the same of a count that was found
module _ (s : Bytes) (n : ℕ) (f : UpTo newline s n) where
  there : n < length s → newline_in s ≡ Some n
  there h = newline_is s ∙ rw (← f.end, lt-ltb n (length s) h)

  missing : length s ≤ n → newline_in s ≡ None
  missing h = newline_is s ∙ rw (← f.end, le-ltb n (length s) h)

-- ---- a line

module _ (text : Bytes) (from n : ℕ) (h : from ≤ length text) (f : UpTo newline (take (length text - from) (drop from text)) n) where
  here : UpTo newline (drop from text) n
  here = rw (tail text from) at f

  pub line_missing : length text - from ≤ n → Ends text from (record { end = from; next = from })
  unfolding line_at
  line_missing k =
      let e = missing (drop from text) n here (omega (arith, length-drop from text)) in
      record { line = rw e; end = omega arith; inside = omega arith; next = omega arith; rest = omega arith }

  pub line_there : n < length text - from → Ends text from (record { end = from + n; next = from + n + 1 })
  unfolding line_at
  line_there k =
      let e = there (drop from text) n here (omega (arith, length-drop from text)) in
      record { line = rw e; end = omega arith; inside = omega arith; next = omega arith; rest = omega arith }

-- ---- what is held

pub fronted : (b : Bytes) {b' : Bytes} (h : Held) → Within (length b) h → b' ≡ sets b 0 (part b (0 + h.from) (h.end - (0 + h.from)))
    → Fronted b b' h (record { from = 0; end = h.end - h.from; skips = h.skips })
fronted b h w g =
    let e = rw zero-add at g in
    let n : length (part b h.from (h.end - h.from)) ≡ h.end - h.from = length_part b h.from (h.end - h.from) (omega (arith, w.start, w.stop)) in
    record {
      held = refl;
      bytes = rw (e, sub-zero (h.end - h.from)) (rw n at (part_sets b 0 (part b h.from (h.end - h.from)) (omega (arith, w.stop))));
      within = record { start = omega arith; stop = omega (arith, w.stop) };
    }

module _ (b : Bytes) (h : Held) (count : ℕ) (w : Within (length b) h) (room : h.end + count ≤ length b) where
  pub grows : not h.skips ≡ true → Arrived b h count (record { from = h.from; end = h.end + count; skips = false })
  unfolding grown
  grows e = record { held = rw (not-true h.skips e); within = record { start = omega (arith, w.start); stop = room } }

  module _ (n : ℕ) (f : UpTo newline (part b h.from (h.end + count - h.from)) n) (e : not h.skips ≡ false) where
    size : length (part b h.from (h.end + count - h.from)) ≡ h.end + count - h.from
    size = length_part b h.from (h.end + count - h.from) (omega (arith, w.start))

    pub lets_go : h.end + count - h.from ≤ n → Arrived b h count (record { from = h.end + count; end = h.end + count; skips = true })
    unfolding grown
    lets_go k = record { held = rw (not-false h.skips e, missing _ n f (omega (arith, size))); within = record { start = omega arith; stop = room } }

    pub goes_behind : n < h.end + count - h.from → Arrived b h count (record { from = h.from + n + 1; end = h.end + count; skips = false })
    unfolding grown
    goes_behind k = record { held = rw (not-false h.skips e, there _ n f (omega (arith, size))); within = record { start = omega arith; stop = room } }
