-- Keys, payloads, writes and bodies: where they end, by the fields that code finds there.
-- Assumes nothing.
use mathlib.Core.Path.{◌≡◌, refl, sym, ap, ◌∙◌}
use mathlib.Core.Bool.{Bool, true, false, not, cond}
use mathlib.Core.List.{[], ◌∷◌}
use Rattle.std.specs.Prelude.{Option, None, Some}
use Prim.Native.Nat.{ℕ, zero, suc, ◌+◌, ◌-◌, ◌≤◌, ◌<◌}
use native.Mathlib.Omega.{arith}
use lib.Dec.{leb, ltb, eqb}
use lib.ListN.{length, drop, get_or, length-drop}
use borrow.Author.Tests.{ltb-false, eqb-true, eq-eqb, ne_eqb}
use Rattle.model.specs.Sound.{are_printable}
use Rattle.model.specs.Sizes.{max_key, max_writes, number_width, count_width, tag_width}
use Rattle.model.specs.Bytes.{Bytes, part, num, order, is_less}
use Rattle.model.specs.State.{deletion, content, Write, Writes}
use Rattle.model.specs.Load.{Parsed, got, bad, Parser, bind, give, fault, field, number_field, read_payload, read_key, read_end}
use Rattle.model.specs.Journal.{Commit, read_write, read_writes, read_body}
use Rattle.model.proofs.Cases.{none_some}
use Rattle.model_laws.proofs.Round.{got_what, got_rest, got_at, bind_got, fault_none}
use Rattle.memory.proofs.Laws.Parts.{part_cons, part_none}
use Rattle.memory.proofs.Laws.Tests.{same_test}
use Rattle.journal_fields.specs.Places.{writes_in_body}
use Rattle.dump_fields.specs.Machine.{said, width_of}
use Rattle.dump_fields.specs.declared.machine.Phase.TheVariants.{KeyLength, Key, VersionCount, Number, Tag, ValueLength}
use Rattle.dump_fields.specs.declared.machine.Loader.{Loader}
use Rattle.dump_fields.proofs.Laws.Numbers.{said_short}
use Rattle.dump_fields.proofs.Laws.Machine.{or_one_lem}
use Rattle.journal_check.specs.Records.{passed, limits_of, end_of, end_of_field}
use Rattle.journal_check.proofs.Laws.Fields.{bind_fails, bind_gives, bind_assoc, part_few, field_is, bytes_end, passed_clear, ended, unended, field_end, number_end}

-- ---- where a parser ends, what stands there is left

abbrev pub Steady : {A : Type 0} → Parser A → Type 0
Steady {A} m =
    (x : Bytes) (at : ℕ) → at ≤ length x → (a : A) (p : ℕ) (y : Bytes) → m at (drop at x) ≡ got a p y
    → (y ≡ drop p x) × (p ≤ length x)

steady_give : {A : Type 0} (a : A) → Steady (give a)
steady_give a x at h b p y e = (sym (got_rest e) ∙ ap (λ (p : ℕ). drop p x) (got_at e), rw (← got_at e) h)

steady_bind : {A B : Type 0} (m : Parser A) (f : A → Parser B) → Steady m → ((a : A) → Steady (f a))
    → Steady (λ at x. bind (m at x) f)
steady_bind m f s t x at h b q z e =
    bind_got (m at (drop at x)) f e (λ a p y g k. let i = s x at h a p y g in t a x p i.1 b q z (rw i.0 at k))

steady_field : (n : ℕ) (t : Bytes → ℕ) → Steady (field n t)
steady_field n t x at h b p y e = let i = field_is x at h n t e in (rw i.1 i.2, rw i.1 i.3)

steady_number : (n : ℕ) (t : ℕ → ℕ) → Steady (number_field n t)
unfolding number_field
steady_number n t = steady_bind (field n (λ b. t (num b))) _ (steady_field n _) (λ b. steady_give (num b))

steady_cond : {A : Type 0} (b : Bool) (m n : Parser A) → Steady m → Steady n → Steady (cond b m n)
steady_cond true m n s t = s
steady_cond false m n s t = t

steady_payload : Steady read_payload
unfolding read_payload
steady_payload =
    steady_bind (number_field tag_width _) _ (steady_number tag_width _) (λ tag.
    steady_cond (eqb tag 0) (give deletion) _ (steady_give deletion)
    (steady_bind (number_field count_width _) _ (steady_number count_width _) (λ len.
    steady_bind (field len (λ b. 0)) _ (steady_field len (λ b. 0)) (λ b. steady_give (content b)))))

steady_key : {A : Type 0} (last : Bytes) (f : Bytes → Parser A) → ((k : Bytes) → Steady (f k)) → Steady (read_key last f)
steady_key last f s =
    steady_bind (number_field count_width _) _ (steady_number count_width _) (λ len.
    steady_bind (field len _) f (steady_field len _) s)

steady_write : (last : Bytes) → Steady (read_write last)
unfolding read_write
steady_write last = steady_key last _ (λ k. steady_bind read_payload _ steady_payload (λ p. steady_give _))

steady_writes : (n : ℕ) (last : Bytes) → Steady (read_writes n last)
unfolding read_writes
steady_writes zero last = steady_give []
steady_writes (suc n) last =
    steady_bind (read_write last) _ (steady_write last) (λ w.
    steady_bind (read_writes n w.key) _ (steady_writes n w.key) (λ ws. steady_give _))

-- what was read, where it ends
record Ends {A : Type 0} (x : Bytes) (m : Parsed A) (p : ℕ) : Type 0 where
  what : A
  is : m ≡ got what p (drop p x)
  inside : p ≤ length x

ends_at : {A : Type 0} (m : Parser A) → Steady m → (x : Bytes) (at : ℕ) → at ≤ length x
    → {p : ℕ} → end_of (m at (drop at x)) ≡ Some p → Ends x (m at (drop at x)) p
ends_at {A} m s x at h {p} e = by (m at (drop at x)) refl e
  where
    by : (w : Parsed A) → m at (drop at x) ≡ w → end_of w ≡ Some p → Ends x (m at (drop at x)) p
    by (got a q y) i e =
        let same : q ≡ p = cc in
        let t = s x at h a q y i in
        record { what = a; is = i ∙ rw (t.0, same); inside = rw (← same) t.1 }
    by (bad n q) i e = none_some e

-- ---- a key

abbrev key_length : Parser ℕ
key_length = number_field count_width (λ n. fault ((ltb n 1, 14) ∷ (ltb max_key n, 14) ∷ []))

abbrev key_field : (last : Bytes) → ℕ → Parser Bytes
key_field last n = field n (λ b. fault ((not (are_printable b), 14) ∷ (not (is_less (order last b)), 14) ∷ []))

-- a key, then what f reads
key_then : {A : Type 0} (last : Bytes) (f : Bytes → Parser A) (at : ℕ) (x : Bytes)
    → read_key last f at x ≡ bind (read_key last give at x) f
unfolding bind
key_then last f at x =
    sym (bind_assoc (key_length at x) _ f
    ∙ λ i. bind (key_length at x) (λ n at x. bind_assoc (key_field last n at x) give f i))

module _ (x : Bytes) (at : ℕ) (s : Loader) (last : Bytes) where
  pub key_none : None ≡ end_of_field at KeyLength s last (drop at x) → None ≡ end_of (read_key last give at (drop at x))
  key_none e =
      sym (number_end x at KeyLength s last _ _ (omega arith) (λ v b. refl) ∙ rw (unended x at KeyLength s last e))

  -- the key itself starts at k and has n bytes
  module _ {k : ℕ} (e : Some k ≡ end_of_field at KeyLength s last (drop at x)) {n : ℕ} (i : n ≡ num (part x at count_width)) where
    length_ended : (passed KeyLength s last (drop at x) ≡ true) × (k ≡ at + count_width) × (k ≤ length x)
    length_ended = ended x at KeyLength s last e

    key_bytes_lem : n ≡ width_of (Key n)
    unfolding fault
    key_bytes_lem =
        let b : Bytes = part x at count_width in
        let u : said b ≡ num b = said_short b (omega (arith, part_few x at count_width)) in
        let f = rw u at (passed_clear x at KeyLength s last length_ended.0) in
        let some = fault_none (ltb (num b) 1) 13 ((ltb max_key (num b), 14) ∷ []) f in
        or_one_lem n (λ z. omega (arith, ltb-false (num b) 1 some.0))

    pub key_some : end_of_field k (Key n) s last (drop k x) ≡ end_of (read_key last give at (drop at x))
    key_some =
        let w = key_bytes_lem in
        sym (number_end x at KeyLength s last _ _ (omega arith) (λ v b. refl) ∙ rw (length_ended.0, ← i, ← length_ended.1)
        (field_end x k (Key n) s last n _ give w refl ∙ rw (← w)))

-- ---- a payload

module _ (x : Bytes) (at : ℕ) (s : Loader) (last : Bytes) where
  pub pay_none : None ≡ end_of_field at Tag s last (drop at x) → None ≡ end_of (read_payload at (drop at x))
  unfolding read_payload
  pay_none e = sym (number_end x at Tag s last _ _ (omega arith) (λ v b. refl) ∙ rw (unended x at Tag s last e))

  -- a value's length is at l
  module _ {l : ℕ} (e : Some l ≡ end_of_field at Tag s last (drop at x)) where
    tag_ended : (passed Tag s last (drop at x) ≡ true) × (l ≡ at + tag_width) × (l ≤ length x)
    tag_ended = ended x at Tag s last e

    tag_is : num (part x at tag_width) ≡ get_or x at 0
    unfolding num
    tag_is =
        let inside = tag_ended in rw (part_cons x at 0 (omega arith), part_none x (suc at) 0 refl) (omega arith)

    pub pay_deletion : get_or x at 0 ≡ 0 → Some l ≡ end_of (read_payload at (drop at x))
    unfolding read_payload
    pay_deletion z =
        sym (number_end x at Tag s last _ _ (omega arith) (λ v b. refl)
        ∙ rw (tag_ended.0, tag_is, eq-eqb (get_or x at 0) 0 z, ← tag_ended.1))

    module _ (z : get_or x at 0 ≡ 0 → ⊥) where
      abbrev len : ℕ
      len = num (part x l count_width)

      pub valued : end_of (read_payload at (drop at x)) ≡ cond (passed ValueLength s last (drop l x))
          (cond (leb len (length x - (l + count_width))) (Some (l + count_width + len)) None) None
      unfolding read_payload
      valued =
          number_end x at Tag s last _ _ (omega arith) (λ v b. refl)
          ∙ rw (tag_ended.0, tag_is, ne_eqb (get_or x at 0) 0 z, ← tag_ended.1)
          (number_end x l ValueLength s last _ _ (omega arith) (λ v b. refl)
          ∙ rw (bytes_end x (l + count_width) len content))

      pub pay_cut : None ≡ end_of_field l ValueLength s last (drop l x) → None ≡ end_of (read_payload at (drop at x))
      pay_cut g = rw (valued, unended x l ValueLength s last g)

      pub pay_value : {v : ℕ} → Some v ≡ end_of_field l ValueLength s last (drop l x) → {n : ℕ} → n ≡ len
          → {b : Bool} → leb n (length x - v) ≡ b → cond b (Some (v + n)) None ≡ end_of (read_payload at (drop at x))
      pay_value g i k =
          let t = ended x l ValueLength s last g in
          rw (valued, t.0, ← i, ← t.1, k)

-- ---- a write

abbrev write_of : Bytes → Parser Write
write_of k = λ at x. bind (read_payload at x) (λ p. give (record { key = k; payload = p }))

pub write_none : (x : Bytes) (at : ℕ) (last : Bytes) → None ≡ end_of (read_key last give at (drop at x))
    → None ≡ end_of (read_write last at (drop at x))
unfolding read_write
write_none x at last e = sym (ap end_of (key_then last write_of at (drop at x)) ∙ bind_fails _ write_of (sym e))

module _ (x : Bytes) (at : ℕ) (h : at ≤ length x) (last : Bytes) where
  pub write_some : {k : ℕ} → Some k ≡ end_of (read_key last give at (drop at x))
      → (k ≤ length x) × (end_of (read_payload k (drop k x)) ≡ end_of (read_write last at (drop at x)))
  unfolding bind read_write
  write_some {k} e =
      let g = ends_at (read_key last give) (steady_key last give (λ k. steady_give k)) x at h (sym e) in
      (g.inside, sym (ap end_of (key_then last write_of at (drop at x)) ∙ rw g.is (bind_gives (read_payload k (drop k x)) _)))

  -- its key, where it was read
  pub key_read : {w : Write} {p : ℕ} {y : Bytes} → read_write last at (drop at x) ≡ got w p y
      → (w.key ≡ part x (at + count_width) (num (part x at count_width))) × (at + count_width + num (part x at count_width) ≤ length x)
  unfolding read_write number_field
  key_read e =
      bind_got _ _ e (λ n p y g e. bind_got _ _ g (λ b q z k g.
      let i = field_is x at h count_width _ k in
      let same : n ≡ num (part x at count_width) = sym (got_what g) ∙ ap num i.0 in
      let place : p ≡ at + count_width = sym (got_at g) ∙ i.1 in
      let left : y ≡ drop (at + count_width) x = sym (got_rest g) ∙ i.2 in
      bind_got _ _ e (λ k r v u e. bind_got _ _ e (λ pay _ _ _ e.
      let j = field_is x (at + count_width) i.3 n _ (rw (place, left) at u) in
      (rw (← got_what e, ← same) j.0, rw (← same) j.3)))))

-- ---- writes

-- n writes, of which i are behind `at`
module _ (x : Bytes) (at : ℕ) (h : at ≤ length x) (last : Bytes) (n i : ℕ) (l : i < n) where
  one_more : n - i ≡ suc (n - (i + 1))
  one_more = omega arith

  pub writes_none : None ≡ end_of (read_write last at (drop at x)) → None ≡ end_of (read_writes (n - i) last at (drop at x))
  unfolding read_writes
  writes_none e = rw one_more (sym (bind_fails (read_write last at (drop at x)) _ (sym e)))

  module _ {p : ℕ} (e : Some p ≡ end_of (read_write last at (drop at x))) where
    pub write_inside : (p ≤ length x) × (at + count_width + num (part x at count_width) ≤ length x)
    write_inside =
        let g = ends_at (read_write last) (steady_write last) x at h (sym e) in (g.inside, (key_read x at h last g.is).1)

    pub writes_more : {k : ℕ} → k ≡ num (part x at count_width)
        → end_of (read_writes (n - i) last at (drop at x))
        ≡ end_of (read_writes (n - (i + 1)) (part x (at + count_width) k) p (drop p x))
    unfolding read_writes bind
    writes_more j =
        let g = ends_at (read_write last) (steady_write last) x at h (sym e) in
        rw (one_more, g.is, j, ← (key_read x at h last g.is).0)
        (bind_gives (read_writes (n - (i + 1)) g.what.key p (drop p x)) (λ ws. g.what ∷ ws))

-- ---- a body

-- the end of a body with that number and those writes
abbrev ending : (n : ℕ) → Writes → Parser Commit
ending n ws at x = bind (read_end at x) (λ e. give (record { number = n; writes = ws }))

-- code's count of writes is the dump's count of versions: another number, and no other fault
count_test : (a b : Bool) → eqb (fault ((a, 14) ∷ (b, 14) ∷ [])) 0 ≡ eqb (fault ((a, 14) ∷ (b, 15) ∷ [])) 0
unfolding fault
count_test true b = refl
count_test false true = refl
count_test false false = refl

-- the input ends exactly there
end_test : {A : Type 0} (a : A) (x : Bytes) (p : ℕ) → p ≤ length x
    → cond (eqb p (length x)) (Some p) None ≡ end_of (bind (read_end p (drop p x)) (λ e. give a))
unfolding read_end bind
end_test a x p h = rw left (ended_by (drop p x))
  where
    left : eqb p (length x) ≡ eqb (length (drop p x)) 0
    left =
        same_test _ _
        (λ e. eq-eqb (length (drop p x)) 0 (omega (arith, length-drop p x, eqb-true p (length x) e)))
        (λ e. eq-eqb p (length x) (omega (arith, length-drop p x, eqb-true (length (drop p x)) 0 e)))

    ended_by : (y : Bytes) → cond (eqb (length y) 0) (Some p) None ≡ end_of (bind (read_end p y) (λ e. give a))
    ended_by [] = refl
    ended_by (b ∷ y) = rw (ne_eqb (suc (length y)) 0 (λ z. omega arith))

module _ (x : Bytes) (counter : ℕ) {s : Loader} (l : s ≡ limits_of counter) (last : Bytes) where
  body_ends : end_of (read_body counter 0 x) ≡ cond (passed Number s last (drop 0 x))
      (cond (passed VersionCount s last (drop number_width x))
      (end_of (bind (read_writes (num (part x number_width count_width)) [] writes_in_body (drop writes_in_body x))
      (ending (num (part x 0 number_width))))) None) None
  unfolding read_body
  body_ends =
      number_end x 0 Number s last _ _ (omega arith) (λ v b. rw l)
      ∙ ap (λ (r : Option ℕ). cond (passed Number s last (drop 0 x)) r None)
      (number_end x number_width VersionCount s last _ _ (omega arith)
      (λ v b. rw l (count_test (ltb v 1) (ltb max_writes v))))

  pub body_unnumbered : None ≡ end_of_field 0 Number s last (drop 0 x) → None ≡ end_of (read_body counter 0 x)
  body_unnumbered e = rw (body_ends, unended x 0 Number s last e)

  -- the count is at c
  module _ {c : ℕ} (e : Some c ≡ end_of_field 0 Number s last (drop 0 x)) where
    number_ended : (passed Number s last (drop 0 x) ≡ true) × (c ≡ 0 + number_width) × (c ≤ length x)
    number_ended = ended x 0 Number s last e

    pub body_uncounted : None ≡ end_of_field c VersionCount s last (drop c x) → None ≡ end_of (read_body counter 0 x)
    body_uncounted g =
        let f = rw number_ended.1 at g in
        rw (body_ends, number_ended.0, unended x number_width VersionCount s last f)

    -- the writes start at w
    module _ {w : ℕ} (g : Some w ≡ end_of_field c VersionCount s last (drop c x)) {n : ℕ}
        (i : n ≡ num (part x c count_width)) where
      counted : (passed VersionCount s last (drop number_width x) ≡ true) × (w ≡ writes_in_body) × (w ≤ length x)
      counted = let t = ended x number_width VersionCount s last (rw number_ended.1 at g) in (t.0, t.1, t.2)

      abbrev writes : Parsed Writes
      writes = read_writes n [] w (drop w x)

      read_from : end_of (read_body counter 0 x) ≡ end_of (bind writes (ending (num (part x 0 number_width))))
      read_from =
          let j = rw number_ended.1 at i in
          rw counted.1 (body_ends ∙ rw (number_ended.0, counted.0, ← j))

      pub body_unwritten : None ≡ end_of writes → None ≡ end_of (read_body counter 0 x)
      body_unwritten k = sym (read_from ∙ bind_fails writes _ (sym k))

      pub body_written : {p : ℕ} → Some p ≡ end_of writes → {b : Bool} → eqb p (length x) ≡ b
          → cond b (Some p) None ≡ end_of (read_body counter 0 x)
      unfolding bind
      body_written {p} k h =
          let t = ends_at (read_writes n []) (steady_writes n []) x w counted.2 (sym k) in
          let number : ℕ = num (part x 0 number_width) in
          rw (← h)
          (end_test _ x p t.inside
          ∙ sym (read_from ∙ ap (λ (m : Parsed Writes). end_of (bind m (ending number))) t.is))
