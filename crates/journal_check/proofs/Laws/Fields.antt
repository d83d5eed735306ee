-- Fields as code finds them at a place, and as the parser reads them there.
-- Assumes nothing.
use mathlib.Core.Path.{◌≡◌, refl, sym, ap, ◌∙◌}
use mathlib.Core.Bool.{true, false, cond}
use Rattle.std.specs.Prelude.{Result, None, Some}
use Rattle.std.specs.Result.{is_ok}
use Prim.Native.Nat.{ℕ, ◌+◌, ◌-◌, ◌≤◌, ◌<◌}
use native.Mathlib.Omega.{arith}
use lib.Dec.{leb, ltb, eqb}
use lib.ListN.{length, take, drop, length-drop, length-take}
use lib.Seq.{drop-drop}
use borrow.Author.Tests.{leb-true, leb-false, ltb-true, ltb-false, eqb-true, le-leb, lt-leb, lt-ltb, le-ltb}
use Rattle.model.specs.Sizes.{number_width}
use Rattle.model.specs.Bytes.{Bytes, part, num}
use Rattle.model.specs.Load.{Parsed, got, bad, Parser, bind, give, field, number_field}
use Rattle.model.proofs.Cases.{by_bool, none_some, and_left, and_right}
use Rattle.model_laws.proofs.Round.{got_what, got_rest, got_at, bad_got}
use Rattle.dump_fields.specs.Machine.{said, width_of, field_tests, fault_of, step_of}
use Rattle.dump_fields.specs.declared.machine.Phase.{Phase}
use Rattle.dump_fields.specs.declared.machine.Loader.{Loader}
use Rattle.dump_fields.specs.declared.machine.Fault.{Fault}
use Rattle.dump_fields.proofs.Laws.Numbers.{said_short}
use Rattle.dump_fields.proofs.Laws.Machine.{wide, goes_by}
use Rattle.journal_check.specs.Records.{passed, end_of, end_of_field}

-- ---- ends

pub bind_fails : {A B : Type 0} (m : Parsed A) (f : A → Parser B) → end_of m ≡ None → end_of (bind m f) ≡ None
unfolding bind
bind_fails (got a p y) f e = none_some (sym e)
bind_fails (bad n p) f e = refl

pub bind_gives : {A B : Type 0} (m : Parsed A) (g : A → B) → end_of (bind m (λ a. give (g a))) ≡ end_of m
unfolding bind
bind_gives (got a p y) g = refl
bind_gives (bad n p) g = refl

pub bind_assoc : {A B C : Type 0} (m : Parsed A) (f : A → Parser B) (g : B → Parser C)
    → bind (bind m f) g ≡ bind m (λ a at x. bind (f a at x) g)
unfolding bind
bind_assoc (got a p y) f g = refl
bind_assoc (bad n p) f g = refl

-- ---- a field at a place

pub part_few : (x : Bytes) (at n : ℕ) → length (part x at n) ≤ n
unfolding part
part_few x at n = omega (arith, length-take n (drop at x))

module _ (x : Bytes) (at : ℕ) where
  left : length (drop at x) ≡ length x - at
  left = length-drop at x

  -- a field that was read
  pub field_is : at ≤ length x → (n : ℕ) (t : Bytes → ℕ) {b : Bytes} {p : ℕ} {y : Bytes}
      → field n t at (drop at x) ≡ got b p y
      → (b ≡ part x at n) × (p ≡ at + n) × (y ≡ drop (at + n) x) × (at + n ≤ length x)
  unfolding field part
  field_is h n t e =
      by_bool (ltb (length (drop at x)) n)
      (λ q. bad_got (rw q at e))
      (λ q. by_bool (eqb (t (take n (drop at x))) 0)
      (λ z.
      let g = rw (q, z) at e in
      (sym (got_what g), sym (got_at g), sym (got_rest g) ∙ drop-drop n at x, omega (arith, left, ltb-false _ n q)))
      (λ z. bad_got (rw (q, z) at e)))

  -- bytes without a test
  pub bytes_end : {B : Type 0} (n : ℕ) (g : Bytes → B)
      → end_of (bind (field n (λ b. 0) at (drop at x)) (λ b. give (g b))) ≡ cond (leb n (length x - at)) (Some (at + n)) None
  unfolding field bind
  bytes_end n g =
      by_bool (leb n (length x - at))
      (λ q. rw (q, left, le-ltb (length x - at) n (leb-true _ _ q)))
      (λ q. rw (q, left, lt-ltb (length x - at) n (leb-false _ _ q)))

  module _ (p : Phase) (s : Loader) (last : Bytes) where
    pub passed_inside : passed p s last (drop at x) ≡ true → at + width_of p ≤ length x
    unfolding passed
    passed_inside e = omega (arith, left, wide p, leb-true (width_of p) (length (drop at x)) (and_left _ _ e))

    pub passed_clear : passed p s last (drop at x) ≡ true
        → fault_of p s (said (part x at (width_of p))) last (part x at (width_of p)) ≡ 0
    unfolding passed part
    passed_clear e = eqb-true _ _ (and_right (leb (width_of p) (length (drop at x))) _ e)

    -- a field that ends at `to`, and one that does not end
    pub ended : {to : ℕ} → Some to ≡ end_of_field at p s last (drop at x)
        → (passed p s last (drop at x) ≡ true) × (to ≡ at + width_of p) × (to ≤ length x)
    ended {to} e =
        by_bool (passed p s last (drop at x))
        (λ q.
        let f = rw q at e in
        let g : to ≡ at + width_of p = cc in
        (q, g, omega (arith, passed_inside q)))
        (λ q. none_some (sym (rw q at e)))

    pub unended : None ≡ end_of_field at p s last (drop at x) → passed p s last (drop at x) ≡ false
    unended e =
        by_bool (passed p s last (drop at x)) (λ q. none_some (rw q at e)) (λ q. q)

    pub field_end : {B : Type 0} (n : ℕ) (t : Bytes → ℕ) (f : Bytes → Parser B) → n ≡ width_of p
        → eqb (t (part x at n)) 0 ≡ eqb (fault_of p s (said (part x at n)) last (part x at n)) 0
        → end_of (bind (field n t at (drop at x)) f)
        ≡ cond (passed p s last (drop at x)) (end_of (f (part x at n) (at + n) (drop (at + n) x))) None
    unfolding field bind passed part
    field_end n t f w e =
        let b : Bytes = take n (drop at x) in
        by_bool (ltb (length (drop at x)) n)
        (λ q. rw (← w, q, lt-leb n (length (drop at x)) (ltb-true (length (drop at x)) n q)))
        (λ q.
        let l : leb n (length (drop at x)) ≡ true = le-leb n (length (drop at x)) (ltb-false (length (drop at x)) n q) in
        rw (← w, q, l)
        (by_bool (eqb (t b) 0)
        (λ z. rw (z, sym e ∙ z, drop-drop n at x))
        (λ z. rw (z, sym e ∙ z))))

    pub number_end : {B : Type 0} (t : ℕ → ℕ) (f : ℕ → Parser B) → width_of p ≤ number_width
        → ((v : ℕ) (b : Bytes) → eqb (t v) 0 ≡ eqb (fault_of p s v last b) 0)
        → end_of (bind (number_field (width_of p) t at (drop at x)) f)
        ≡ cond (passed p s last (drop at x)) (end_of (f (num (part x at (width_of p))) (at + width_of p) (drop (at + width_of p) x))) None
    unfolding number_field bind
    number_end t f l e =
        let b : Bytes = part x at (width_of p) in
        let u : said b ≡ num b = said_short b (omega (arith, part_few x at (width_of p))) in
        ap end_of (bind_assoc (field (width_of p) (λ b. t (num b)) at (drop at x)) (λ b. give (num b)) f)
        ∙ field_end (width_of p) (λ b. t (num b)) (λ b at y. bind (give (num b) at y) f) refl (rw u (e (num b) b))

-- ---- a field as the dump's machine steps over it

module _ (x : Bytes) (at : ℕ) (p : Phase) (s : Loader) (last : Bytes) {w : ℕ} (e : w ≡ width_of p) where
  pub short_fails : length x - at < w → None ≡ end_of_field at p s last (drop at x)
  unfolding passed
  short_fails l = rw (length-drop at x, ← e, lt-leb w (length x - at) l)

  module _ (l : w ≤ length x - at) {b : Bytes} (i : b ≡ part x at w) where
    goes_on : is_ok (step_of p s last b) ≡ passed p s last (drop at x)
    unfolding passed part step_of
    goes_on =
        rw (length-drop at x, ← e, le-leb w (length x - at) l, ← i)
        (goes_by (field_tests p s (said b) last b) _ _)

    pub stepped : {r : Result (Phase × Loader) Fault} → r ≡ step_of p s last b
        → cond (is_ok r) (Some (at + w)) None ≡ end_of_field at p s last (drop at x)
    stepped g = rw (g, goes_on, e)
