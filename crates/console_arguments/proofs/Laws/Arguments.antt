-- The words of a line, read one after the other.
-- Assumes nothing.
use mathlib.Core.Path.{◌≡◌, refl, sym, subst, ◌∙◌}
use mathlib.Core.Bool.{Bool, true, false, not}
use mathlib.Core.List.{[], ◌∷◌}
use Rattle.std.specs.Prelude.{Option, None, Some}
use Prim.Native.Nat.{ℕ, ◌+◌, ◌-◌, ◌≤◌, ◌<◌}
use native.Mathlib.Omega.{arith}
use borrow.Author.Tests.{not-true, not-false, le-leb, lt-leb}
use lib.Dec.{eqb}
use lib.ListN.{length, take, drop, get_or, length-drop}
use lib.Seq.{sets, take_all}
use Rattle.model.specs.Bytes.{Bytes, part}
use Rattle.model.specs.declared.Start.{Start}
use Rattle.text_typed.specs.Typed as typed
use Rattle.text_decimals.specs.Decimals.{parsed}
use Rattle.text_decimals.specs.declared.Parsed.{Parsed}
use Rattle.text_decimals.specs.declared.Parsed.TheVariants as number
use Rattle.text_hex.specs.Hex.{said, fitting, taken, Stores}
use Rattle.text_hex.specs.declared.Decoded.{Decoded}
use Rattle.text_hex.specs.declared.Decoded.TheVariants as bytes
use Rattle.text_hex.proofs.Laws.Hex.{stores, taken_said, stores_size, count_within}
use Rattle.model.proofs.Cases.{true_false}
use Rattle.memory.proofs.Laws.Parts.{length_part}
use Rattle.console_arguments.specs.Arguments.{quote, is_quoted, word_said, key_said, value_in, with_bytes, two_numbers, both_of, start_key_value, Keyed, Written, KeyWithin, BothWithin}
use Rattle.console_arguments.specs.declared.TwoNumbers.{TwoNumbers}
use Rattle.console_arguments.specs.declared.StartAndKey.{StartAndKey}
use Rattle.console_arguments.specs.declared.StartAndKey.TheVariants as keyed
use Rattle.console_arguments.specs.declared.StartKeyValue.{StartKeyValue}
use Rattle.console_arguments.specs.declared.StartKeyValue.TheVariants as written

-- ---- one word

-- the word w, which is the part v of the line, was read as the number x
pub number_at : {w v : Bytes} {r x : Parsed} → r ≡ parsed w → w ≡ v → r ≡ x → parsed v ≡ x
number_at p q e = rw (← q, ← p) e

-- the words w, which are the part v of the line, were read as the two numbers of x
pub two_at : {w v : Bytes} {r x : TwoNumbers} → both_of r ≡ two_numbers w → w ≡ v → r ≡ x → two_numbers v ≡ both_of x
two_at p q e = rw (← q, ← p, e)

-- the word w, which is the part v of the line, was read as the bytes that f has it say
pub bytes_at_lem : (f : Bytes → Option Bytes) {w v m m' : Bytes} {at : ℕ} {r x : Decoded} → Stores (f w) m m' at r → w ≡ v → r ≡ x → fitting at (length m) (f v) ≡ taken m' at x
bytes_at_lem f d q e = rw (← q, ← e) (sym (taken_said d))

-- ---- a key

pub quoted_none : (s : Bytes) → length s ≡ 0 → false ≡ is_quoted s
quoted_none [] h = refl
quoted_none (c ∷ s) h = absurd (omega arith)

pub quoted_some : (s : Bytes) → (length s ≡ 0 → ⊥) → eqb (get_or s 0 0) quote ≡ is_quoted s
quoted_some [] h = absurd (h refl)
quoted_some (c ∷ s) h = refl

pub quoted_long : (s : Bytes) (q : Bool) → q ≡ is_quoted s → not q ≡ false → 1 ≤ length s
quoted_long [] q e f = true_false (sym (not-false q f) ∙ e)
quoted_long (c ∷ s) q e f = omega arith

module _ (s : Bytes) (q : Bool) (e : q ≡ is_quoted s) {m m' : Bytes} {r : Decoded} where
  pub key_hex : not q ≡ true → Stores (said s) m m' 0 r → Stores (key_said s) m m' 0 r
  unfolding key_said
  key_hex f d = rw (← e, not-true q f) d

  pub key_letters : not q ≡ false → Stores (word_said (take (length s - 1) (drop 1 s))) m m' 0 r → Stores (key_said s) m m' 0 r
  unfolding key_said
  key_letters f d = rw (← e, not-false q f) (rw (take_all (length s - 1) (drop 1 s) (simp length-drop (omega arith))) at d)

-- what stands in s before the first blank is f
module _ (s m f : Bytes) (e : f ≡ typed.first s) where
  pub word_split : length f < length s → Stores (word_said s) m m 0 bytes.Bad
  unfolding word_said
  word_split h = stores (word_said s) m 0 None (rw (← e, lt-leb _ _ h))

  module _ (w : length s ≤ length f) where
    pub word_long : length m < length s → Stores (word_said s) m m 0 bytes.Bad
    unfolding word_said
    word_long h = stores (word_said s) m 0 None (rw (← e, le-leb _ _ w, lt-leb (0 + length s) (length m) (omega arith)))

    pub word_fits : {m' : Bytes} → length s ≤ length m → m' ≡ sets m 0 s → Stores (word_said s) m m' 0 (bytes.Count (length s))
    unfolding word_said
    word_fits h o = rw o (stores (word_said s) m 0 (Some s) (rw (← e, le-leb _ _ w, le-leb (0 + length s) (length m) (omega arith))))

-- ---- within the spare memory

pub key_within : {s m m' : Bytes} {r : StartAndKey} {t : Start} {n : ℕ} → Keyed s m m' r → r ≡ keyed.Both t n → n ≤ length m'
key_within {m' = m'} d e = subst (KeyWithin (length m')) e d.within

pub both_within : {s m m' : Bytes} {r : StartKeyValue} {t : Start} {n l : ℕ} → Written s m m' r → r ≡ written.All t n l → n + l ≤ length m'
both_within {m' = m'} d e = subst (BothWithin (length m')) e d.within

-- ---- a start and a key, and more behind them

-- the key stands at the front of m₁; what is left to read is a value
pub key_read : (s : Bytes) {w v k m m₁ : Bytes} {t n : ℕ} {r : Parsed} {d : Decoded} → r ≡ parsed w → w ≡ typed.first s → r ≡ number.Number t
    → v ≡ typed.rest s → k ≡ typed.first v → Stores (key_said k) m m₁ 0 d → d ≡ bytes.Count n
    → start_key_value (length m) s ≡ with_bytes (value_in n (length m₁) (typed.rest v)) (λ b. Some (t, (part m₁ 0 n, b)))
unfolding start_key_value
key_read s {m₁ = m₁} {n = n} p w e v k d c =
    let l : length (part m₁ 0 n) ≡ n = length_part m₁ 0 n (count_within d c) in
    rw (number_at p w e, ← v, bytes_at_lem key_said d k c, l, stores_size d)
