-- Lines read from the front of a text.
use Prim.Native.Nat.{ℕ, suc, ◌+◌, ◌-◌, ◌≤◌, ◌<◌}
use mathlib.Core.Path.{◌≡◌, refl, sym, ap, ◌∙◌}
use mathlib.Core.List.{List, [], ◌∷◌, ◌++◌, append_assoc, append-nil}
use Rattle.std.specs.Prelude.{Option, None, Some, option_map}
use native.Mathlib.Numerals.{add-one}
use native.Mathlib.Omega.{arith}
use borrow.Author.Tests.{eqb-true, eqb-false, eq-eqb, ne_eqb}
use lib.Dec.{eqb}
use lib.ListN.{length, take, drop, get_or, set, drop_of_length-le, length-append, length-take, length-set}
use lib.Seq.{drop-cons, drop-drop, take-suc-set, take_all}
use Rattle.model.specs.Bytes.{Bytes}
use Rattle.model.specs.State.{given}
use Rattle.model.proofs.Cases.{by_bool, zero_one}
use Rattle.text_words.specs.Words.{before, after, UpTo}
use Rattle.text_words.proofs.Laws.Words.{before_take, after_drop, tail}
use Rattle.text_decimals.specs.declared.Parsed.{Parsed}
use Rattle.text_decimals.specs.declared.Parsed.TheVariants.{Number, Bad}
use Rattle.text_decimals.specs.Decimals.{parsed}
use Rattle.workload_plan.specs.Lines.{newline, lines, with_number, numbers_of, counted, seven_in, LineAt}
use Rattle.workload_plan.specs.declared.lines.Line.{Line}

-- ---- the first line, and those after it

pub first_line : (b : ℕ) (bs : Bytes) → lines (b ∷ bs) ≡ before newline (b ∷ bs) ∷ lines (after newline (b ∷ bs))
unfolding lines before after
first_line b [] = by_bool (eqb b newline) (λ e. rw e) (λ e. rw e)
first_line b (c ∷ cs) = by_bool (eqb b newline) (λ e. rw e) (λ e. rw (e, first_line c cs))

-- its end is found n bytes on
module _ (s : Bytes) (at : ℕ) {n : ℕ} (h : at ≤ length s) (f : UpTo newline (take (length s - at) (drop at s)) n) where
  here : UpTo newline (drop at s) n
  here = rw (tail s at) at f

  line_read : {p : Parsed} {next : ℕ} → p ≡ parsed (take (at + n - at) (drop at s)) → next ≤ length s → drop next s ≡ drop (at + n + 1) s
      → LineAt s at (record { number = p; next = next })
  line_read p l q =
      let w : at + n - at ≡ n = omega arith in
      let k : at + n + 1 ≡ at + suc n = omega arith in
      record {
        number = p ∙ rw (w, here.end, before_take newline (drop at s));
        inside = l;
        next = q ∙ rw (k, ← drop-drop (suc n) at s, here.end, after_drop newline (drop at s));
      }

  pub line_ends : {p : Parsed} → p ≡ parsed (take (at + n - at) (drop at s)) → n < length s - at → LineAt s at (record { number = p; next = at + n + 1 })
  line_ends p l = line_read p (omega arith) refl

  pub line_last : {p : Parsed} → p ≡ parsed (take (at + n - at) (drop at s)) → length s - at ≤ n → LineAt s at (record { number = p; next = length s })
  line_last p l =
      let past : length s ≤ at + n + 1 = omega arith in
      line_read p (omega arith) (drop_of_length-le s {i = length s} (omega arith) ∙ sym (drop_of_length-le s past))

-- ---- numbers line by line

-- xs in front of numbers
abbrev ahead : List ℕ → Option (List ℕ) → Option (List ℕ)
ahead xs o = option_map (λ (ys : List ℕ). xs ++ ys) o

ahead_none : (o : Option (List ℕ)) → ahead [] o ≡ o
ahead_none None = refl
ahead_none (Some ys) = refl

ahead_one : (xs : List ℕ) (n : ℕ) (o : Option (List ℕ)) → ahead xs (option_map (λ (ys : List ℕ). n ∷ ys) o) ≡ ahead (xs ++ n ∷ []) o
ahead_one xs n None = refl
ahead_one xs n (Some ys) = ap Some (sym (append_assoc xs (n ∷ []) ys))

-- the first i lines are numbers, and the rest of the text starts at `at`
pub record Taken (s : Bytes) (ns : List ℕ) (at i : ℕ) : Type 0 where
  pub inside : at ≤ length s
  pub room : length ns ≡ 7
  pub rest : numbers_of (lines s) ≡ ahead (take i ns) (numbers_of (lines (drop at s)))

by_list : {P : Type 0} (l : Bytes) → (l ≡ [] → P) → ((b : ℕ) (bs : Bytes) → l ≡ b ∷ bs → P) → P
by_list [] f g = f refl
by_list (b ∷ bs) f g = g b bs refl

pub taken_none : (s : Bytes) (ns : List ℕ) → length ns ≡ 7 → Taken s ns 0 0
taken_none s ns l = record { inside = omega arith; room = l; rest = sym (ahead_none (numbers_of (lines s))) }

-- fewer numbers than seven, and more
few : (xs : List ℕ) → length xs < 7 → counted 7 (ahead xs (Some [])) ≡ None
few xs l = rw (append-nil xs, ne_eqb (length xs) 7 (λ e. omega arith))

many : (xs : List ℕ) → length xs ≡ 7 → (p : Parsed) (o : Option (List ℕ)) → counted 7 (ahead xs (with_number p o)) ≡ None
many xs l Bad o = refl
many xs l (Number n) None = refl
many xs l (Number n) (Some ys) = rw (ne_eqb (length (xs ++ n ∷ ys)) 7 (λ e. omega (arith, length-append xs (n ∷ ys))))

module _ (s : Bytes) (ns : List ℕ) (at i : ℕ) (t : Taken s ns at i) where
  no_line : drop at s ≡ [] → numbers_of (lines s) ≡ ahead (take i ns) (Some [])
  unfolding lines numbers_of
  no_line e = t.rest ∙ rw e

  a_line : (b : ℕ) (bs : Bytes) → drop at s ≡ b ∷ bs
      → numbers_of (lines (drop at s)) ≡ with_number (parsed (before newline (drop at s))) (numbers_of (lines (after newline (drop at s))))
  unfolding numbers_of
  a_line b bs e = rw (e, first_line b bs)

  module _ (h : i < 7) (r : Line) (l : LineAt s at r) where
    at_end : drop at s ≡ [] → r.number ≡ Bad
    unfolding before parsed
    at_end e = l.number ∙ rw e

    line_is : (b : ℕ) (bs : Bytes) (p : Parsed) → r.number ≡ p → drop at s ≡ b ∷ bs → numbers_of (lines (drop at s)) ≡ with_number p (numbers_of (lines (drop r.next s)))
    line_is b bs p q e = a_line b bs e ∙ rw (← l.number, ← l.next, q)

    pub taken_more : (n : ℕ) → r.number ≡ Number n → Taken s (set ns i n) r.next (i + 1)
    taken_more n p =
        by_list (drop at s)
        (λ e. zero_one (cc (at_end e, p)))
        (λ b bs e.
        record {
          inside = l.inside;
          room = length-set ns i n ∙ t.room;
          rest = t.rest
              ∙ rw (line_is b bs (Number n) p e, ahead_one (take i ns) n, add-one i, take-suc-set ns i n (omega arith));
        })

    pub taken_bad : r.number ≡ Bad → None ≡ seven_in s
    unfolding seven_in
    taken_bad p =
        by_list (drop at s)
        (λ e. sym (rw (no_line e) (few (take i ns) (omega (arith, length-take i ns)))))
        (λ b bs e. rw (t.rest, line_is b bs Bad p e))

  pub taken_all : i ≡ 7 → given (eqb at (length s)) ns ≡ seven_in s
  unfolding seven_in
  taken_all e =
      let all : take i ns ≡ ns = rw e (take_all 7 ns (omega arith)) in
      by_bool (eqb at (length s))
      (λ q.
      let d : drop at s ≡ [] = drop_of_length-le s {i = at} (omega (arith, eqb-true at (length s) q)) in
      rw (q, no_line d, all, append-nil ns, eq-eqb (length ns) 7 t.room))
      (λ q.
      let d : at < length s = omega (arith, eqb-false at (length s) q) in
      rw (q, t.rest, a_line (get_or s at 0) (drop (suc at) s) (drop-cons s at 0 d), all)
      (sym (many ns t.room (parsed (before newline (drop at s))) (numbers_of (lines (after newline (drop at s)))))))
