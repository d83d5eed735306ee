-- Digits, pairs of them walked from a place on, and what a text says.
-- Assumes nothing.
use mathlib.Core.Path.{◌≡◌, refl, sym, ap, ◌∙◌}
use mathlib.Core.Bool.{Bool, true, false, not, ◌&&◌, and_assoc}
use mathlib.Core.List.{[], ◌∷◌}
use Rattle.std.specs.Prelude.{Option, None, Some}
use Prim.Native.Nat.{ℕ, suc, ◌+◌, ◌*◌, ◌-◌, ◌/◌, ◌%◌, ◌≤◌, ◌<◌}
use native.Mathlib.Numerals.{add-one}
use native.Mathlib.Omega.{arith}
use borrow.Author.Tests.{not-true, not-false, lt-ltb, le-leb, lt-leb, ltb-true, leb-true}
use lib.Dec.{eqb, leb, ltb}
use lib.ListN.{length, take, drop, get_or, set, length-drop, drop_of_length-le}
use lib.Seq.{sets, length-sets, drop-cons}
use Rattle.model.specs.Bytes.{Bytes}
use Rattle.model.specs.State.{given}
use Rattle.model.specs.Sound.{within}
use Rattle.model.proofs.Cases.{by_bool, zero_one, none_some, within_le, le_within}
use Rattle.memory.proofs.Laws.Numbers.{both_true}
use Rattle.memory.proofs.Laws.Parts.{take_sets, part_sets}
use Rattle.text_words.specs.Words.{Appended}
use Rattle.text_words.proofs.Laws.Words.{has_room_lem}
use Rattle.text_hex.specs.Hex.{dash, nibble, is_digit, is_pairs, pairs, said, glyph, digits, text_of, fitting, count_of, stored, taken, Stores, Decoding}
use Rattle.text_hex.specs.declared.Decoded.{Decoded}
use Rattle.text_hex.specs.declared.Decoded.TheVariants.{Count, Bad}

-- ---- digits

outside : (lo hi c : ℕ) → (lo ≤ c → c ≤ hi → ⊥) → within lo hi c ≡ false
outside lo hi c n = by_bool (within lo hi c) (λ e. let h = within_le lo hi c e in absurd (n h.0 h.1)) (λ e. e)

module _ (c : ℕ) where
  pub nibble_figure : 48 ≤ c → c ≤ 57 → c - 48 ≡ nibble c
  unfolding nibble
  nibble_figure h k = rw (le_within 48 57 c h k)

  pub nibble_upper : 65 ≤ c → c ≤ 70 → c - 55 ≡ nibble c
  unfolding nibble
  nibble_upper h k = rw (outside 48 57 c (λ f g. omega arith), le_within 65 70 c h k)

  pub nibble_lower : 97 ≤ c → c ≤ 102 → c - 87 ≡ nibble c
  unfolding nibble
  nibble_lower h k = rw (outside 48 57 c (λ f g. omega arith), outside 65 70 c (λ f g. omega arith), le_within 97 102 c h k)

  pub nibble_none : (48 ≤ c → c ≤ 57 → ⊥) → (65 ≤ c → c ≤ 70 → ⊥) → (97 ≤ c → c ≤ 102 → ⊥) → 16 ≡ nibble c
  unfolding nibble
  nibble_none l m n = rw (outside 48 57 c l, outside 65 70 c m, outside 97 102 c n)

-- ---- the pair at byte i, and the pairs after it

module _ (s : Bytes) (i : ℕ) (h : suc i < length s) where
  two : drop i s ≡ get_or s i 0 ∷ get_or s (i + 1) 0 ∷ drop (i + 2) s
  two =
      let k : i < length s = omega arith in
      let e : i + 2 ≡ suc (suc i) = omega arith in
      rw (e, add-one, drop-cons s i 0 k, drop-cons s (suc i) 0 h)

  is_pairs_step : is_pairs (drop i s) ≡ (is_digit (get_or s i 0) && (is_digit (get_or s (i + 1) 0) && is_pairs (drop (i + 2) s)))
  unfolding is_pairs
  is_pairs_step = rw two

  -- the pair is good, and so are those after it
  pub good_pair : is_pairs (drop i s) ≡ true → ((nibble (get_or s i 0) < 16) × (nibble (get_or s (i + 1) 0) < 16)) × (is_pairs (drop (i + 2) s) ≡ true)
  good_pair k =
      let a = both_true (is_digit (get_or s i 0)) _ (sym is_pairs_step ∙ k) in
      let b = both_true (is_digit (get_or s (i + 1) 0)) (is_pairs (drop (i + 2) s)) a.1 in
      ((ltb-true _ 16 a.0, ltb-true _ 16 b.0), b.1)

-- fewer than two bytes
few : (s : Bytes) → length s < 2 → (pairs s ≡ []) × (is_pairs s ≡ eqb (length s) 0)
unfolding pairs is_pairs
few [] h = (refl, refl)
few (a ∷ []) h = (refl, refl)
few (a ∷ b ∷ s) h = absurd (omega arith)

-- ---- what a text says

pub length_pairs : (s : Bytes) → length (pairs s) ≡ length s / 2
unfolding pairs
length_pairs [] = refl
length_pairs (a ∷ []) = refl
length_pairs (a ∷ b ∷ s) = let e : length (pairs s) ≡ length s / 2 = length_pairs s in omega arith

pub said_one : (s : Bytes) → length s ≡ 1 → said s ≡ given (eqb (get_or s 0 0) dash) (pairs s)
unfolding said pairs is_pairs
said_one [] h = absurd (omega arith)
said_one (c ∷ []) h = by_bool (eqb c dash) (λ e. rw e) (λ e. rw e)
said_one (c ∷ d ∷ s) h = absurd (omega arith)

pub said_other : (s : Bytes) → (length s ≡ 1 → ⊥) → said s ≡ given (ltb 0 (length s) && is_pairs s) (pairs s)
unfolding said
said_other [] h = refl
said_other (c ∷ []) h = absurd (h refl)
said_other (c ∷ d ∷ s) h = rw (lt-ltb 0 (length (c ∷ d ∷ s)) (omega arith))

module _ (s : Bytes) (i : ℕ) (b : Bool) (e : said s ≡ given (b && is_pairs (drop i s)) (pairs s)) where
  pub said_more : suc i < length s → said s ≡ given (((b && is_digit (get_or s i 0)) && is_digit (get_or s (i + 1) 0)) && is_pairs (drop (i + 2) s)) (pairs s)
  said_more h = e ∙ rw (is_pairs_step s i h) (simp and_assoc)

  pub said_end : length s - i < 2 → said s ≡ given (b && eqb (length s - i) 0) (pairs s)
  said_end h = e ∙ rw ((few (drop i s) (rw length-drop (omega arith))).1, length-drop)

pub said_pairs : (s : Bytes) → said s ≡ Some (pairs s) → 1 < length s → is_pairs s ≡ true
said_pairs s e h =
    let k : ltb 0 (length s) ≡ true = lt-ltb 0 (length s) (omega arith) in
    let g = rw k at (sym (said_other s (λ z. omega arith)) ∙ e) in
    by_bool (is_pairs s) (λ p. p) (λ p. none_some (rw p at g))

-- a byte stored at n, and the rest of the pairs after it
pub store_pair : (s : Bytes) (i : ℕ) (d : Bytes) (n : ℕ) {x : ℕ} → suc i < length s → x ≡ nibble (get_or s i 0) * 16 + nibble (get_or s (i + 1) 0)
    → sets (set d n x) (n + 1) (pairs (drop (i + 2) s)) ≡ sets d n (pairs (drop i s))
unfolding pairs
store_pair s i d n h e = rw (two s i h, e, add-one n)

pub pairs_stored : (s : Bytes) (i : ℕ) (d : Bytes) (n : ℕ) {e : Bytes} → length s - i ≤ 1 → sets d n (pairs (drop i s)) ≡ e → d ≡ e
pairs_stored s i d n h g = rw (few (drop i s) (rw length-drop (omega arith))).0 at g

-- the answer and the output that go with what is said and fits
pub stores : (says : Option Bytes) (out : Bytes) (at : ℕ) (o : Option Bytes) → fitting at (length out) says ≡ o → Stores says out (stored out at o) at (count_of o)
stores says out at o e = record { answer = ap count_of (sym e); output = ap (stored out at) (sym e) }

pub said_some : (s : Bytes) (b : Bool) → said s ≡ given b (pairs s) → not b ≡ false → said s ≡ Some (pairs s)
said_some s b e f = rw (not-false b f) at e

module _ (s out : Bytes) (at : ℕ) where
  pub decoding_bad : (b : Bool) → said s ≡ given b (pairs s) → not b ≡ true → Decoding s out out at Bad
  decoding_bad b e f = stores (said s) out at None (rw (e, not-true b f))

  module _ (e : said s ≡ Some (pairs s)) where
    pub decoding_long : length out < at + length s / 2 → Decoding s out out at Bad
    decoding_long h = stores (said s) out at None (rw (e, length_pairs s, lt-leb _ _ h))

    pub decoding_pairs : {out' : Bytes} → at + length s / 2 ≤ length out → out' ≡ sets out at (pairs s) → Decoding s out out' at (Count (length s / 2))
    decoding_pairs h o = rw (o, ← length_pairs s) (stores (said s) out at (Some (pairs s)) (rw (e, length_pairs s, le-leb _ _ h)))

-- what is said fits, or does not
by_fit {ℓ} : {P : Type ℓ} (at room : ℕ) (o : Option Bytes) → (fitting at room o ≡ None → P) → ((bs : Bytes) → at + length bs ≤ room → fitting at room o ≡ Some bs → P) → P
by_fit at room None f g = f refl
by_fit at room (Some bs) f g = by_bool (leb (at + length bs) room) (λ e. g bs (leb-true _ _ e) (rw e)) (λ e. f (rw e))

module _ {says : Option Bytes} {out out' : Bytes} {at : ℕ} {r : Decoded} (d : Stores says out out' at r) where
  -- what fits is what then stands in the output
  pub taken_said : taken out' at r ≡ fitting at (length out) says
  taken_said = rw (d.answer, d.output) (by_fit at (length out) says (λ e. rw e) (λ bs h e. rw e (ap Some (part_sets out at bs h))))

  pub stores_size : length out' ≡ length out
  stores_size = rw d.output (by_fit at (length out) says (λ e. rw e) (λ bs h e. rw e (length-sets out at bs)))

  -- what stands below stays
  pub stores_below : take at out' ≡ take at out
  stores_below = rw d.output (by_fit at (length out) says (λ e. rw e) (λ bs h e. rw e (take_sets out at bs at (omega arith))))

  -- the count is within the output
  pub count_within : {n : ℕ} → r ≡ Count n → at + n ≤ length out'
  count_within {n} c =
      let a = sym c ∙ d.answer in
      by_fit at (length out) says
      (λ e. zero_one (cc (rw e at a)))
      (λ bs h e. let k : n ≡ length bs = cc (rw e at a) in omega (arith, stores_size))

-- ---- the text of bytes

pub digits_stored : (s : Bytes) (i : ℕ) (d : Bytes) (n : ℕ) {e : Bytes} → length s ≤ i → sets d n (digits (drop i s)) ≡ e → d ≡ e
unfolding digits
digits_stored s i d n h g = rw (drop_of_length-le s h) at g

pub store_digits : (s : Bytes) (i : ℕ) (d : Bytes) (j : ℕ) {x y : ℕ} → i < length s → x ≡ glyph (get_or s i 0 / 16) → y ≡ glyph (get_or s i 0 % 16)
    → sets (set (set d j x) (j + 1) y) (j + 2) (digits (drop (i + 1) s)) ≡ sets d j (digits (drop i s))
unfolding digits
store_digits s i d j h e f =
    let g : j + 2 ≡ suc (suc j) = omega arith in
    rw (add-one i, drop-cons s i 0 h, e, f, g, add-one j)

pub length_digits : (s : Bytes) → length (digits s) ≡ 2 * length s
unfolding digits
length_digits [] = refl
length_digits (b ∷ s) = let e : length (digits s) ≡ 2 * length s = length_digits s in omega arith

pub text_none : (bs : Bytes) → length bs ≡ 0 → text_of bs ≡ dash ∷ []
unfolding text_of
text_none [] h = refl
text_none (b ∷ bs) h = absurd (omega arith)

text_some : (bs : Bytes) → (length bs ≡ 0 → ⊥) → text_of bs ≡ digits bs
unfolding text_of
text_some [] h = absurd (h refl)
text_some (b ∷ bs) h = refl

pub length_text : (bs : Bytes) → (length bs ≡ 0 → ⊥) → length (text_of bs) ≡ 2 * length bs
length_text bs h = rw (text_some bs h) (length_digits bs)

pub encoded : (t : Bytes) {t' : Bytes} (at : ℕ) (bs : Bytes) → (length bs ≡ 0 → ⊥) → at + 2 * length bs ≤ length t → t' ≡ sets t at (digits bs)
    → Appended t t' at (at + 2 * length bs) (text_of bs)
encoded t at bs n h e = rw (text_some bs n, ← length_digits bs) (has_room_lem t at (digits bs) (rw length_digits h) e)
